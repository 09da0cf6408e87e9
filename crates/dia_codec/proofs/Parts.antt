-- Bytes that are written piece by piece.
use Rattle.std.proofs.Common.{ℕ, ◌+◌, ◌-◌, List, length, take, drop, Option, sym, subst}
use Rattle.std.proofs.Math.Seq.{take-add}
use Rattle.std.proofs.lemmas.List.{take_rest}
use Rattle.std.proofs.KnownBytes.{Appends-trans}
use Rattle.std.specs.Io.KnownBytes.{Appends}

-- a first part and then a first part of the rest are a first part
pub Appends-part : (a b c : Option (List ℕ)) (n m : ℕ) (bs : List ℕ) → Appends a b (take n bs) → Appends b c (take m (take (length bs - n) (drop n bs))) → Appends a c (take (n + m) bs)
Appends-part a b c n m bs p q =
    let rest = subst (λ (xs : List ℕ). Appends b c (take m xs)) (take_rest bs n) q in
    subst (λ (xs : List ℕ). Appends a c xs) (sym (take-add n m bs)) (Appends-trans a b c (take n bs) (take m (drop n bs)) p rest)
