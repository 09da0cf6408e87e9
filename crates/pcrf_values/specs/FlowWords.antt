-- The flows of an AF session, and what they show of status and rates (TS 29.214, 4.4.1, 5.3.11 and 5.3.12).
use Rattle.std.specs.Prelude.{ℕ, Bool, false, if◌then◌else◌, ◌==◌, List, Option, Some, None}
use Rattle.std.proofs.Common.{option_map, option_and_then, unwrap_or}
use Rattle.std.specs.Ordering.{nat_cmp}
use Rattle.std.specs.List.{filter_map}
use Rattle.pcrf_values.specs.Orders.{pair_cmp}
use Rattle.pcrf_values.specs.Ascending.{ascending}
use Rattle.pcrf_values.specs.Places.{ComponentField, ComponentStatus, FlowField, FlowUsage, FlowStatus, Place, OfComponent, OfFlow}
use Rattle.pcrf_values.specs.Values.{Value, Number, Entry}
use Rattle.pcrf_values.specs.Facts.{Fact, Field}
use Rattle.pcrf_values.specs.Held.{kept_list}
use Rattle.pcrf_values.specs.Live.{Shows}

-- the component and the flow of which the place is a field
abbrev pub flow_of_place : Place → Option (ℕ × ℕ)
flow_of_place (OfFlow c n f) = Some (c, n)
flow_of_place p = None

-- of which the fact gives a field
abbrev pub flow_of : Fact → Option (ℕ × ℕ)
flow_of (Field p t v) = flow_of_place p
flow_of f = None

-- the flows of which a field shows, each once, ascending by component and flow
abbrev pub flows : List Fact → List (ℕ × ℕ)
flows facts = ascending (pair_cmp nat_cmp nat_cmp) (filter_map flow_of (kept_list facts))

-- the value as a number, if it is one
abbrev pub as_number : Value → Option ℕ
as_number (Number n) = Some n
as_number x = None

-- the value that shows at the place
abbrev pub value_at : Shows → Place → Option Value
value_at shows p = option_map (λ (e : Entry). e.1) (shows p)

-- the number that shows at the place
abbrev pub number_at : Shows → Place → Option ℕ
number_at shows p = option_and_then as_number (value_at shows p)

-- the first, where it is there, else the second
abbrev pub or_else : {A : Type 0} → Option A → Option A → Option A
or_else None y = y
or_else (Some x) y = Some x

-- the flow shows that Flow-Usage
abbrev pub has_usage : Shows → ℕ → ℕ → ℕ → Bool
has_usage shows c n usage = unwrap_or (option_map (λ u. u == usage) (number_at shows (OfFlow c n FlowUsage))) false

-- Flow-Usage RTCP
abbrev pub is_rtcp : Shows → ℕ → ℕ → Bool
is_rtcp shows c n = has_usage shows c n 1

-- the flow's Flow-Status, else its component's, else ENABLED
abbrev pub flow_status : Shows → ℕ → ℕ → ℕ
flow_status shows c n = unwrap_or (or_else (number_at shows (OfFlow c n FlowStatus)) (number_at shows (OfComponent c ComponentStatus))) 2

-- the rate that requests gave it, by the fields of one direction: its own, else, unless it is RTCP, its component's
abbrev pub given_rate : Shows → ℕ → ℕ → FlowField → ComponentField → Option ℕ
given_rate shows c n own whole = or_else (number_at shows (OfFlow c n own)) (if is_rtcp shows c n then None else number_at shows (OfComponent c whole))
