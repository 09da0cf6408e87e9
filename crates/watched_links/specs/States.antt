-- In which state, by Origin-State-Id, hosts and the hosts of sessions spoke last (RFC 6733, 8.16).
use Rattle.std.specs.Prelude.{ℕ, nat_lt, Bool, true, ◌||◌, List, [], length, Option, Some, None, is_some, if◌then◌else◌}
use Rattle.std.specs.BTreeMap.{insert_entry, is_at}
use Rattle.std.specs.Map.{lookup, set_value}
use Rattle.pcrf_values.specs.Orders.{text_cmp}
use Rattle.watched_links.specs.LostRulesLimits.{most_hosts, most_sessions}

-- states by name, which ascend: of hosts by Diameter identity, of sessions by Session-Id
abbrev pub StateList : Type 0
StateList = List (List ℕ × ℕ)

-- the state of each host as it exchanged capabilities, and that of the host of each session as this spoke last
pub record StatesValue : Type 0 where
  pub hosts : StateList
  pub sessions : StateList

-- nothing is known
abbrev pub nothing_known : StatesValue
nothing_known = record { hosts = []; sessions = [] }

-- the state by a name, where it is known
abbrev pub state_of : StateList → List ℕ → Option ℕ
state_of states name = lookup (is_at (text_cmp name)) states

-- a name has that state: in the place of the one before, or at its place in the order
abbrev pub with_state : StateList → List ℕ → ℕ → StateList
with_state states name state =
    if is_some (state_of states name) then set_value (is_at (text_cmp name)) states state
    else insert_entry text_cmp states name state

-- a host can be known: it is, or there is room for one more
abbrev pub has_place : StateList → List ℕ → Bool
has_place hosts host = is_some (state_of hosts host) || nat_lt (length hosts) most_hosts

-- the sessions as one more comes: all are forgotten where there is no room for it
abbrev pub with_room : StateList → List ℕ → StateList
with_room sessions session =
    if is_some (state_of sessions session) || nat_lt (length sessions) most_sessions then sessions else []

-- a host said this of itself: of one that has no place nothing is known
abbrev pub host_told : StatesValue → List ℕ → ℕ → StatesValue
host_told s host state = record s { hosts = if has_place s.hosts host then with_state s.hosts host state else s.hosts }

-- a session spoke from a host in this state
abbrev pub session_told : StatesValue → List ℕ → ℕ → StatesValue
session_told s session state = record s { sessions = with_state (with_room s.sessions session) session state }

-- the state may have grown: it is greater than the one before, or that isn't known
abbrev pub may_have_grown : Option ℕ → ℕ → Bool
may_have_grown None state = true
may_have_grown (Some before) state = nat_lt before state
