-- What folding keeps: the number of bytes, and what is folded already.
use Rattle.std.proofs.Common.{◌≡◌, ℕ, ◌<◌, ◌≤◌, List, [], ◌∷◌, length, refl, subst, sym, arith}
use Rattle.std.proofs.lemmas.Bool.Decides.{nat_tests}
use Rattle.std.proofs.lemmas.List.{length-map}
use Rattle.std.specs.Char.{to_ascii_lowercase}
use Rattle.pcrf_values.specs.Limits.{apn_limit}
use Rattle.pcrf_values.specs.Texts.{small_letters}

-- a small letter stays
lowercase_twice : (b : ℕ) → to_ascii_lowercase (to_ascii_lowercase b) ≡ to_ascii_lowercase b
lowercase_twice b = grind (arith, nat_tests)

-- what is folded stays
folded_twice : (bytes : List ℕ) → small_letters (small_letters bytes) ≡ small_letters bytes
folded_twice [] = refl
folded_twice (b ∷ bytes) =
    let first = lowercase_twice b in
    let rest = folded_twice bytes in
    λ i. first i ∷ rest i

-- folded bytes are an access point name where the bytes have its length
pub folded_keeps : (bytes letters : List ℕ) → letters ≡ small_letters bytes → 0 < length bytes → length bytes ≤ apn_limit → (0 < length letters) × (length letters ≤ apn_limit) × (small_letters letters ≡ letters)
folded_keeps bytes letters is least most =
    let many = length-map bytes to_ascii_lowercase in
    subst (λ l. (0 < length l) × (length l ≤ apn_limit) × (small_letters l ≡ l)) (sym is) (subst (λ n. 0 < n) (sym many) least, subst (λ n. n ≤ apn_limit) (sym many) most, folded_twice bytes)
