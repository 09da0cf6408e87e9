-- Who waits to be looked at for a push, where all may wait.
use Rattle.std.specs.Prelude.{◌≡◌, ℕ, Bool, true, false, not, ◌&&◌, ◌||◌, List, Option, Some, is_some}
use Rattle.std.specs.declared.net.ipv4_addr.Ipv4Addr.{Ipv4Addr}
use Rattle.pcrf_values.specs.Orders.{text_cmp}
use Rattle.pcrf_values.specs.Sets.{In}
use Rattle.pcrf_values.specs.Places.{host}
use Rattle.pcrf_model.specs.Sessions.{Gx, Session, gx, is_gx}
use Rattle.pcrf_model.specs.Tables.{Tables}
use Rattle.pcrf_model.specs.Views.{View, text}
use Rattle.pcrf_model.specs.Waiting.{Waiting, AllDueWait, Stay}
use Rattle.bind_index.specs.Lists.{first_of, ids_at, is_nothing_listed}
use Rattle.pcrf_values.specs.Prefixes.{Ipv6Prefix}
use Rattle.bind_index.specs.Index.{IndexValue, listed_at, listed_in}

-- all sessions wait, or those of the lists, each under the host of its gateway
pub record WaitingValue : Type 0 where
  pub all : Bool
  pub lists : List (List ℕ × List (List ℕ))

-- the lists, as the definitions have them
abbrev pub waiting_of : WaitingValue → Waiting
waiting_of w name = ids_at text_cmp w.lists name

-- a session waits under the host, or all do
abbrev pub is_waiting : WaitingValue → List ℕ → Bool
is_waiting w name = w.all || is_some (first_of (waiting_of w name))

-- no session is listed, and not all wait
abbrev pub is_nobody_listed : WaitingValue → Bool
is_nobody_listed w = not w.all && is_nothing_listed w.lists

-- each session that is due waits
pub record DueWait (t : Tables) (i : ℕ) (v : View) (w : WaitingValue) : Type 0 where
  pub listed : w.all ≡ false → AllDueWait t i v (waiting_of w)

-- all that wait stay, unless all wait afterwards
pub record Keeps (before after : WaitingValue) : Type 0 where
  pub some : after.all ≡ false → before.all ≡ false
  pub stay : after.all ≡ false → Stay (waiting_of before) (waiting_of after)

-- the session waits under the host
pub record WaitsUnder (w : WaitingValue) (name id : List ℕ) : Type 0 where
  pub there : w.all ≡ false → In id (waiting_of w name)

-- the session waits under the host that it shows, if it shows one
pub record WaitsIfDue (v : View) (w : WaitingValue) (s : Session) : Type 0 where
  pub there : w.all ≡ false → (name : List ℕ) → text v s host ≡ Some name → In s.id (waiting_of w name)

-- so does each session of a gateway
pub record EachWaits (v : View) (w : WaitingValue) : Type 0 where
  pub each : (s : Session) → is_gx s.kind ≡ true → WaitsIfDue v w s

-- each gateway's session that is listed under the address waits, where it may be due
pub record ListedWait (v : View) (index : IndexValue) (w : WaitingValue) (at : Option Ipv4Addr) : Type 0 where
  pub each : (a : Ipv4Addr) (s : Session) → at ≡ Some a → s.kind ≡ Gx → In s.id (listed_at index Gx a) → WaitsIfDue v w s

-- each of these gateways' sessions waits, where it may be due
pub record EachListedWaits (v : View) (w : WaitingValue) (ids : List (List ℕ)) : Type 0 where
  pub each : (id : List ℕ) → In id ids → WaitsIfDue v w (gx id)

-- so does each that is listed under the network
abbrev pub NetworkWaits : View → IndexValue → WaitingValue → Ipv6Prefix → Type 0
NetworkWaits v index w n = EachListedWaits v w (listed_in index Gx n)
