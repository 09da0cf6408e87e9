-- The facts of one session, which of them overshadows which, and their order.
use Rattle.std.specs.Prelude.{Bool, true, false, ◌&&◌, Option, Some, None, []}
use Rattle.std.proofs.Common.{Ordering}
use Rattle.std.specs.Ordering.{is_eq, is_lt, on}
use Rattle.std.specs.Option.{option_cmp}
use Rattle.pcrf_values.specs.Orders.{pair_cmp}
use Rattle.pcrf_values.specs.declared.tag.Tag.{Tag}
use Rattle.pcrf_values.specs.Places.{Place, Removable, Position, place_position, removed_position, position_cmp, place_cmp, contains, covers}
use Rattle.pcrf_values.specs.Values.{Value, Entry, entry_cmp}

-- The end of the session (RFC 6733, 8.4); a component or a flow removed (Flow-Status REMOVED,
-- TS 29.214, 5.3.11); a value at a place, with its tag; that the application function was asked to
-- abort the session (TS 29.214, 4.4.6.1).
pub data Fact : Type 0 where
  End : Fact
  Removed : Removable → Fact
  Field : Place → Tag → Value → Fact
  Aborted : Fact

-- The second overshadows the first: it is the end of another fact's session, removes what the first is in, or has a greater tag and value at the same place.
abbrev pub is_shaded_by : Fact → Fact → Bool
is_shaded_by End g = false
is_shaded_by f End = true
is_shaded_by (Removed r) (Removed s) = contains s r
is_shaded_by (Field p t v) (Removed s) = covers s p
is_shaded_by (Field p t v) (Field q u w) = is_eq (place_cmp p q) && is_lt (entry_cmp (t, v) (u, w))
is_shaded_by f g = false

-- where the fact stands among the facts of its session
abbrev pub position : Fact → Position
position End = (1, (0, (0, (0, []))))
position (Removed r) = removed_position r
position (Field p t v) = place_position p
position Aborted = (8, (0, (0, (0, []))))

-- what it says there
abbrev pub entry : Fact → Option Entry
entry (Field p t v) = Some (t, v)
entry f = None

-- by position, and then by tag and value: the order in which letters carry facts
abbrev pub fact_cmp : Fact → Fact → Ordering
fact_cmp = on (λ f. (position f, entry f)) (pair_cmp position_cmp (option_cmp entry_cmp))
