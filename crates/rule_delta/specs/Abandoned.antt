-- Application functions' sessions that wait to be looked at for an abort, under the host of their application function.
use Rattle.std.specs.Prelude.{◌≡◌, ℕ, true, false, List, map, Option, Some, None, find, if◌then◌else◌}
use Rattle.std.specs.declared.net.ipv4_addr.Ipv4Addr.{Ipv4Addr}
use Rattle.pcrf_values.specs.Sets.{In}
use Rattle.pcrf_model.specs.Aborting.{abort_of, is_abandoned}
use Rattle.pcrf_model.specs.Replies.{AbortValue}
use Rattle.pcrf_model.specs.Sessions.{Af, Session, af}
use Rattle.pcrf_model.specs.Views.{View}
use Rattle.pcrf_model.specs.Waiting.{Waiting}
use Rattle.pcrf_values.specs.Prefixes.{Ipv6Prefix}
use Rattle.bind_index.specs.Index.{IndexValue, listed_at, listed_in}
use Rattle.rule_delta.specs.Waits.{WaitingValue, WaitsIfDue, waiting_of}

-- each session that is abandoned at a site waits under its host
pub record AllAbandonedWait (i : ℕ) (v : View) (waiting : Waiting) : Type 0 where
  pub each : (name : List ℕ) (s : Session) → is_abandoned i v (Some name) s ≡ true → In s.id (waiting name)

-- unless all wait
pub record AbandonedWait (i : ℕ) (v : View) (w : WaitingValue) : Type 0 where
  pub listed : w.all ≡ false → AllAbandonedWait i v (waiting_of w)

-- the first that is abandoned, of the sessions that wait under the host
abbrev pub first_waiting : ℕ → View → Waiting → List ℕ → Option Session
first_waiting i v waiting name = find (is_abandoned i v (Some name)) (map af (waiting name))

-- each application function's session that is listed under the address waits under its host
pub record ListedCallsWait (v : View) (index : IndexValue) (w : WaitingValue) (at : Option Ipv4Addr) : Type 0 where
  pub each : (a : Ipv4Addr) (id : List ℕ) → at ≡ Some a → In id (listed_at index Af a) → WaitsIfDue v w (af id)

-- each of these application functions' sessions waits under its host
pub record EachListedCallWaits (v : View) (w : WaitingValue) (ids : List (List ℕ)) : Type 0 where
  pub each : (id : List ℕ) → In id ids → WaitsIfDue v w (af id)

-- so does each that is listed under the network
abbrev pub NetworkCallsWait : View → IndexValue → WaitingValue → Ipv6Prefix → Type 0
NetworkCallsWait v index w n = EachListedCallWaits v w (listed_in index Af n)

-- so does each that there is
pub record EachCallWaits (v : View) (w : WaitingValue) : Type 0 where
  pub each : (id : List ℕ) → WaitsIfDue v w (af id)

-- what is asked of the session, if it is abandoned at the site for the host, any where none is given
abbrev pub abort_if_left : ℕ → View → Option (List ℕ) → Session → Option AbortValue
abort_if_left i v name s = if is_abandoned i v name s then Some (abort_of v s) else None
