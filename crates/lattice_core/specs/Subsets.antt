-- What values say, as tests: that a value says nothing, and that another says all that it says.
use Rattle.std.specs.Prelude.{Bool, List, Option, None, Some}
use Rattle.std.specs.declared.cmp.Ordering.{Ordering}
use Rattle.std.specs.List.{list_all}
use Rattle.pcrf_values.specs.Sets.{In}
use Rattle.lattice_core.specs.Entries.{value_at}

-- each member of the first is one of the second
abbrev pub IsSubset : {A : Type 0} → List A → List A → Type 0
IsSubset {A} xs ys = (x : A) → In x xs → In x ys

-- a value beside what may stand at its key
abbrev pub subset_at : {V : Type 0} → (V → V → Bool) → (V → Bool) → V → Option V → Bool
subset_at subset empty v None = empty v
subset_at subset empty v (Some w) = subset v w

-- a map says what its entries say, each under its key
abbrev pub map_subset : {K V : Type 0} → (K → K → Ordering) → (V → V → Bool) → (V → Bool) → List (K × V) → List (K × V) → Bool
map_subset cmp subset empty xs ys = list_all (λ e. subset_at subset empty e.1 (value_at cmp ys e.0)) xs

-- and nothing where none of them says anything
abbrev pub map_empty : {K V : Type 0} → (V → Bool) → List (K × V) → Bool
map_empty empty xs = list_all (λ e. empty e.1) xs
