-- A map as its keys in their order, beside the entries of a table that finds them by a hash.
use Rattle.std.specs.Prelude.{◌≡◌, Bool, true, List, [], ◌∷◌, Option, Some, None, is_some}
use Rattle.std.specs.declared.cmp.Ordering.{Ordering}
use Rattle.std.specs.List.{list_any, AllByRecursion}
use Rattle.std.specs.List.Sorted.{IsStrictlySortedBy}
use Rattle.std.specs.Map.{lookup}
use Rattle.std.specs.BTreeMap.{is_at}

-- an entry in front of others, if a value was found for its key
abbrev pub found_before : {K V : Type 0} → K → Option V → List (K × V) → List (K × V)
found_before k None es = es
found_before k (Some v) es = (k, v) ∷ es

module _ {K V : Type 0} (eq : K → K → Bool) where
  -- each key in turn, with the value that the table has for it
  abbrev pub entries_of : List K → List (K × V) → List (K × V)
  entries_of [] es = []
  entries_of (k ∷ ks) es = found_before k (lookup (eq k) es) (entries_of ks es)

  -- the table has a value for each of the keys
  abbrev pub AreFound : List (K × V) → List K → Type 0
  AreFound es ks = AllByRecursion (λ k. is_some (lookup (eq k) es) ≡ true) ks

module _ {K V : Type 0} (cmp : K → K → Ordering) (eq : K → K → Bool) where
  -- the keys ascend, and the table has values for them and for no others
  abbrev pub IsHashed : List K → List (K × V) → Type 0
  IsHashed ks es = IsStrictlySortedBy cmp ks × ((q : K) → is_some (lookup (eq q) es) ≡ list_any (is_at (cmp q)) ks)
