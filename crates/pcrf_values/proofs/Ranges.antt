-- Lists within a range of lengths.
use Rattle.std.proofs.Common.{◌≡◌, ◌<◌, ◌≤◌, ℕ, List, [], ◌∷◌, length, Some, arith, refl, nat_le, true}
use Rattle.std.proofs.lemmas.Bool.Decides.{nat_tests}
use Rattle.pcrf_values.specs.Sets.{if_any}
use Rattle.pcrf_values.specs.Texts.{one_to}

-- a list that isn't too long is within the range, if it has a member
pub one_to-if_any : {A : Type 0} (most : ℕ) (xs : List A) → length xs ≤ most → one_to most xs ≡ if_any xs
one_to-if_any most [] within = refl
one_to-if_any most (x ∷ xs) within =
    let some : nat_le 1 (length (x ∷ xs)) ≡ true = grind (arith, nat_tests) in
    let few : nat_le (length (x ∷ xs)) most ≡ true = grind (arith, nat_tests) in
    rw (some, few) refl

-- a list within the range is itself
pub one_to_fits : {A : Type 0} (most : ℕ) (xs : List A) → 0 < length xs → length xs ≤ most → one_to most xs ≡ Some xs
one_to_fits most [] some within = let no : ⊥ = omega (arith, some) in absurd no
one_to_fits most (x ∷ xs) some within = one_to-if_any most (x ∷ xs) within
