-- What a set of facts on one session holds, and what it shows.
use Rattle.std.specs.Prelude.{Bool, true, false, if◌then◌else◌, List, ◌++◌, Option, Some, None}
use Rattle.std.specs.Ordering.{is_eq}
use Rattle.std.specs.List.{list_any, filter_map}
use Rattle.pcrf_values.specs.Ascending.{ascending}
use Rattle.pcrf_values.specs.Sets.{greatest, maximal}
use Rattle.pcrf_values.specs.Places.{Place, Removable, place_cmp, covers}
use Rattle.pcrf_values.specs.Values.{Entry, entry_cmp}
use Rattle.pcrf_values.specs.Facts.{Fact, End, Removed, Field, Aborted, fact_cmp, is_shaded_by}

-- the facts that none overshadows
abbrev pub kept_set : List Fact → List Fact
kept_set = maximal is_shaded_by

-- what is kept, as its one ascending list
abbrev pub kept_list : List Fact → List Fact
kept_list facts = ascending fact_cmp (kept_set facts)

-- what is kept of the facts of both
abbrev pub join_of : List Fact → List Fact → List Fact
join_of xs ys = kept_list (xs ++ ys)

-- the fact is the end
abbrev pub ends : Fact → Bool
ends End = true
ends f = false

-- the session is ended
abbrev pub is_ended : List Fact → Bool
is_ended = list_any ends

-- nothing shows at the place where there is this fact
abbrev pub blocks : Place → Fact → Bool
blocks p End = true
blocks p (Removed r) = covers r p
blocks p f = false

-- the session is ended, or what the place is in was removed
abbrev pub is_gone : List Fact → Place → Bool
is_gone facts p = list_any (blocks p) facts

-- the tag and value of the fact, if it stands at the place
abbrev pub entry_at : Place → Fact → Option Entry
entry_at p (Field q t v) = if is_eq (place_cmp p q) then Some (t, v) else None
entry_at p f = None

-- the greatest tag and value at the place, none where there is no fact
abbrev pub greatest_entry : List Fact → Place → Option Entry
greatest_entry facts p = greatest entry_cmp (filter_map (entry_at p) facts)

-- what the place shows, with its tag
abbrev pub entry_shown : List Fact → Place → Option Entry
entry_shown facts p = if is_gone facts p then None else greatest_entry facts p

-- what the fact says is removed
abbrev pub removal : Fact → Option Removable
removal (Removed r) = Some r
removal f = None

-- the components and flows that are removed, as far as that is kept, components first
abbrev pub removed_parts : List Fact → List Removable
removed_parts facts = filter_map removal (kept_list facts)

-- the fact is that the session was asked to abort
abbrev pub aborts : Fact → Bool
aborts Aborted = true
aborts f = false

-- the session was asked to abort, as far as that is kept
abbrev pub is_aborted : List Fact → Bool
is_aborted facts = list_any aborts (kept_list facts)
