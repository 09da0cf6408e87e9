-- Finite sets, each as its one ascending list.
use Rattle.std.specs.Prelude.{◌≡◌, List, [], ◌∷◌}
use Rattle.std.proofs.Common.{Ordering, Less}
use Rattle.std.specs.FinMap.Entries.{by_order}
use Rattle.pcrf_values.specs.Sets.{In}

-- the list with x at its place in ascending order, once
abbrev pub place : {A : Type 0} → (A → A → Ordering) → A → List A → List A
place cmp x [] = x ∷ []
place cmp x (y ∷ ys) = by_order (cmp x y) (x ∷ y ∷ ys) (y ∷ ys) (y ∷ place cmp x ys)

-- the set of a list's members as its one ascending list
abbrev pub ascending : {A : Type 0} → (A → A → Ordering) → List A → List A
ascending cmp [] = []
ascending cmp (x ∷ xs) = place cmp x (ascending cmp xs)

module _ {A : Type 0} (cmp : A → A → Ordering) where
  -- below each member
  abbrev pub IsBelowAll : A → List A → Type 0
  IsBelowAll x xs = (y : A) → In y xs → cmp x y ≡ Less

  -- each below all that follow, so none comes twice
  abbrev pub Rises : List A → Type 0
  Rises [] = Unit {0}
  Rises (x ∷ xs) = IsBelowAll x xs × Rises xs
