-- Lists of Session-Ids under keys.
use Rattle.std.specs.Prelude.{◌≡◌, Bool, true, false, not, List, [], ◌∷◌, drop, Option, Some, None, if◌then◌else◌}
use Rattle.std.specs.declared.cmp.Ordering.{Ordering}
use Rattle.std.specs.declared.cmp.Ordering.TheVariants.{Less, Greater}
use Rattle.std.specs.List.{filter}
use Rattle.std.specs.Ordering.{is_eq}
use Rattle.std.specs.BTreeMap.{is_at}
use Rattle.std.specs.Map.{lookup}
use Rattle.pcrf_values.specs.Ascending.{place}

module _ {A : Type 0} where
  -- the first of the list
  abbrev pub first_of : List A → Option A
  first_of [] = None
  first_of (id ∷ ids) = Some id

  -- one that is left, if there is one, and the others
  abbrev pub ids_left : Option A → List A → List A
  ids_left None ids = ids
  ids_left (Some id) ids = id ∷ ids

  -- the Session-Ids under a key, none where it has no list
  abbrev pub ids_or_none : Option (List A) → List A
  ids_or_none None = []
  ids_or_none (Some ids) = ids

module _ {A : Type 0} (order : A → A → Ordering) where
  -- the list without that Session-Id
  abbrev pub without : A → List A → List A
  without id ids = filter (λ x. not (is_eq (order id x))) ids

  -- below the first of the list, so below all of an ascending one
  abbrev pub IsBelowFirst : A → List A → Type 0
  IsBelowFirst id [] = ⊥
  IsBelowFirst id (x ∷ xs) = order id x ≡ Less

  -- above the first
  abbrev pub IsAboveFirst : A → List A → Type 0
  IsAboveFirst id [] = ⊥
  IsAboveFirst id (x ∷ xs) = order id x ≡ Greater

-- no key has a list
abbrev pub is_nothing_listed : {K A : Type 0} → List (K × List A) → Bool
is_nothing_listed [] = true
is_nothing_listed (l ∷ lists) = false

module _ {K A : Type 0} (cmp : K → K → Ordering) where
  -- the Session-Ids that the lists have under a key
  abbrev pub ids_at : List (K × List A) → K → List A
  ids_at lists k = ids_or_none (lookup (is_at (cmp k)) lists)

  -- and without the first
  abbrev pub without_first : List (K × List A) → K → K → List A
  without_first lists key k = if is_eq (cmp key k) then drop 1 (ids_at lists k) else ids_at lists k

  module _ (order : A → A → Ordering) where
    -- with one more under a key
    abbrev pub with_id : List (K × List A) → K → A → K → List A
    with_id lists key id k = if is_eq (cmp key k) then place order id (ids_at lists k) else ids_at lists k

    -- and without one
    abbrev pub without_id : List (K × List A) → K → A → K → List A
    without_id lists key id k = if is_eq (cmp key k) then without order id (ids_at lists k) else ids_at lists k
