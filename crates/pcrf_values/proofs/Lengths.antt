-- A set as an ascending list has no more members than the list that it is made of.
use Rattle.std.proofs.Common.{◌≤◌, ◌+◌, List, [], ◌∷◌, length, arith, Ordering, Less, Equal, Greater}
use Rattle.std.specs.FinMap.Entries.{by_order}
use Rattle.pcrf_values.specs.Ascending.{place, ascending}

-- one member more at most
pub length-place : {A : Type 0} (cmp : A → A → Ordering) (x : A) (ys : List A) → length (place cmp x ys) ≤ 1 + length ys
length-place cmp x [] = omega arith
length-place {A} cmp x (y ∷ ys) =
    let more = length-place cmp x ys in
    elim (cmp x y) as (λ (o : Ordering). length (by_order o (x ∷ y ∷ ys) (y ∷ ys) (y ∷ place cmp x ys)) ≤ 1 + length (y ∷ ys)) [
      | Less ↦ omega arith
      | Equal ↦ omega arith
      | Greater ↦ omega arith
    ]

pub length-ascending : {A : Type 0} (cmp : A → A → Ordering) (xs : List A) → length (ascending cmp xs) ≤ length xs
length-ascending cmp [] = omega arith
length-ascending cmp (x ∷ xs) =
    let more = length-ascending cmp xs in
    let one = length-place cmp x (ascending cmp xs) in
    omega arith
