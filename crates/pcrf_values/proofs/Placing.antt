-- A value placed among the members of an ascending list, as a loop finds its place.
use Rattle.std.proofs.Common.{◌≡◌, ℕ, zero, suc, ◌<◌, ◌≤◌, List, [], ◌∷◌, ◌++◌, length, get_or, refl, ap, sym, ◌∙◌, arith}
use Rattle.std.specs.BTreeSet.{insert_key}
use Rattle.std.specs.List.{insert}
use Rattle.std.specs.declared.cmp.Ordering.{Ordering}
use Rattle.std.specs.declared.cmp.Ordering.TheVariants.{Less, Equal, Greater}
use Rattle.pcrf_values.specs.Ascending.{place, ascending}

module _ {A : Type 0} (cmp : A → A → Ordering) where
  -- x is above each of the first i members
  abbrev pub Passes : A → ℕ → List A → Type 0
  Passes x zero ys = Unit {0}
  Passes x (suc i) [] = Unit {0}
  Passes x (suc i) (y ∷ ys) = (cmp x y ≡ Greater) × Passes x i ys

  -- one member more is passed
  pub passes_more : (x : A) (i : ℕ) (ys : List A) (y : A) → i < length ys → y ≡ get_or ys i y → cmp x y ≡ Greater → Passes x i ys → Passes x (suc i) ys
  passes_more x zero [] y within read above h = absurd (omega arith)
  passes_more x zero (z ∷ ys) y within read above h = (ap (cmp x) (sym read) ∙ above, tt)
  passes_more x (suc i) [] y within read above h = tt
  passes_more x (suc i) (z ∷ ys) y within read above h = (h.0, passes_more x i ys y (omega arith) read above h.1)

  -- the place is before the first member that is above x
  pub placed_before : (x : A) (i : ℕ) (ys : List A) (y : A) → i < length ys → y ≡ get_or ys i y → cmp x y ≡ Less → Passes x i ys → insert ys i x ≡ place cmp x ys
  placed_before x zero [] y within read below h = absurd (omega arith)
  placed_before x zero (z ∷ ys) y within read below h =
      let first : cmp x z ≡ Less = ap (cmp x) (sym read) ∙ below in
      simp first
  placed_before x (suc i) [] y within read below h = absurd (omega arith)
  placed_before x (suc i) (z ∷ ys) y within read below h = simp (h.0) (ap (λ l. z ∷ l) (placed_before x i ys y (omega arith) read below h.1))

  -- a member is not placed again
  pub placed_there : (x : A) (i : ℕ) (ys : List A) (y : A) → i < length ys → y ≡ get_or ys i y → cmp x y ≡ Equal → Passes x i ys → ys ≡ place cmp x ys
  placed_there x zero [] y within read same h = absurd (omega arith)
  placed_there x zero (z ∷ ys) y within read same h =
      let first : cmp x z ≡ Equal = ap (cmp x) (sym read) ∙ same in
      simp first
  placed_there x (suc i) [] y within read same h = absurd (omega arith)
  placed_there x (suc i) (z ∷ ys) y within read same h = simp (h.0) (ap (λ l. z ∷ l) (placed_there x i ys y (omega arith) read same h.1))

  -- past all members the place is the end
  pub placed_last : (x : A) (i : ℕ) (ys : List A) → length ys ≤ i → Passes x i ys → ys ++ x ∷ [] ≡ place cmp x ys
  placed_last x i [] past h = refl
  placed_last x zero (z ∷ ys) past h = absurd (omega arith)
  placed_last x (suc i) (z ∷ ys) past h = simp (h.0) (ap (λ l. z ∷ l) (placed_last x i ys (omega arith) h.1))

  -- the members of a list placed one after the other, the last one first
  abbrev pub place_all : List A → List A → List A
  place_all [] ys = ys
  place_all (x ∷ xs) ys = place cmp x (place_all xs ys)

  -- the last one is placed first
  pub place_all_last : (xs : List A) (x : A) (ys : List A) → place_all (xs ++ x ∷ []) ys ≡ place_all xs (place cmp x ys)
  place_all_last [] x ys = refl
  place_all_last (z ∷ xs) x ys = ap (place cmp z) (place_all_last xs x ys)

  -- placed among none they are the ascending list
  pub place_all_none : (xs : List A) → place_all xs [] ≡ ascending cmp xs
  place_all_none [] = refl
  place_all_none (x ∷ xs) = ap (place cmp x) (place_all_none xs)

  -- what a tree inserts is placed
  pub inserted_is_placed : (x : A) (ys : List A) → insert_key cmp ys x ≡ place cmp x ys
  inserted_is_placed x [] = refl
  inserted_is_placed x (y ∷ ys) = elim (cmp x y) as (λ r. cmp x y ≡ r → insert_key cmp (y ∷ ys) x ≡ place cmp x (y ∷ ys)) [
    | Less ↦ λ e. simp e refl
    | Equal ↦ λ e. simp e refl
    | Greater ↦ λ e. simp e (ap (λ l. y ∷ l) (inserted_is_placed x ys))
  ] refl
