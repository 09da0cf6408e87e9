-- Lists of bytes: those that are the same, and those that are combined with a mask.
use Rattle.std.proofs.Common.{◌≡◌, ℕ, ◌+◌, ◌<◌, ◌≤◌, ◌==◌, ◌&&◌, Bool, true, false, List, [], ◌∷◌, ◌++◌, length, take, drop, get_or, map, refl, sym, ap, ◌∙◌, append_assoc, arith}
use Rattle.std.specs.Prelude.{bit_xor}
use Rattle.std.proofs.lemmas.Bool.{eq-eqb, eqb-true}
use Rattle.std.proofs.lemmas.List.{drop_more, take_more_set, drop-set-lt, take_all}
use Rattle.std.proofs.Math.ListN.{set}
use Rattle.peer_lines.specs.Hmac.{masked, same_bytes}

-- the same from a place on
pub same_at : (xs ys : List ℕ) (i : ℕ) → i < length xs → i < length ys
    → same_bytes (drop i xs) (drop i ys) ≡ ((get_or xs i 0 == get_or ys i 0) && same_bytes (drop (i + 1) xs) (drop (i + 1) ys))
same_at xs ys i h k j = same_bytes (drop_more xs i 0 h j) (drop_more ys i 0 k j)

-- one byte more is combined
pub masked_at : (mask : ℕ) (xs : List ℕ) (i : ℕ) → i < length xs
    → take i xs ++ masked mask (drop i xs) ≡ take (i + 1) (set xs i (bit_xor (get_or xs i 0) mask)) ++ masked mask (drop (i + 1) (set xs i (bit_xor (get_or xs i 0) mask)))
masked_at mask xs i h =
    let x = bit_xor (get_or xs i 0) mask in
    let below : i < i + 1 = omega arith in
    ap (λ l. take i xs ++ masked mask l) (drop_more xs i 0 h)
    ∙ sym (append_assoc (take i xs) (x ∷ []) (masked mask (drop (i + 1) xs)))
    ∙ (λ j. sym (take_more_set xs i x h) j ++ masked mask (sym (drop-set-lt (i + 1) xs i x below) j))

-- bytes that are the same
both_true : (p q : Bool) → (p && q) ≡ true → (p ≡ true) × (q ≡ true)
both_true false q e = absurd (cc)
both_true true q e = (refl, e)

pub same_true : (xs ys : List ℕ) → same_bytes xs ys ≡ true → xs ≡ ys
same_true [] [] e = refl
same_true [] (y ∷ ys) e = absurd (cc)
same_true (x ∷ xs) [] e = absurd (cc)
same_true (x ∷ xs) (y ∷ ys) e =
    let both = both_true (x == y) (same_bytes xs ys) e in
    λ i. eqb-true x y both.0 i ∷ same_true xs ys both.1 i

-- a first byte and what is behind it
pub by_first : (bytes rest : List ℕ) (n : ℕ) → length bytes ≡ n + 1 → rest ≡ take n (drop 1 bytes) → bytes ≡ get_or bytes 0 0 ∷ rest
by_first [] rest n l e = absurd (omega arith)
by_first (x ∷ xs) rest n l e =
    let short : length xs ≤ n = omega arith in
    λ i. x ∷ (sym (e ∙ take_all n xs short)) i
