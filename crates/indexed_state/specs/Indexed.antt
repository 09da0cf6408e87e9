-- What is seen of an indexed state, and when its parts agree.
use Rattle.std.specs.Prelude.{◌≡◌, ◌⊎◌, ℕ, Bool, true, false, List, Option, Some, None}
use Rattle.std.proofs.Common.{option_map}
use Rattle.std.specs.Net.Addr.{ipv4_octets}
use Rattle.std.specs.declared.net.ipv4_addr.Ipv4Addr.{Ipv4Addr}
use Rattle.pcrf_values.specs.Sets.{In}
use Rattle.pcrf_values.specs.Prefixes.{Ipv6Prefix}
use Rattle.pcrf_values.specs.RuleValues.{RuleValue}
use Rattle.pcrf_values.specs.Facts.{Fact, Field}
use Rattle.pcrf_values.specs.Held.{kept_list, join_of}
use Rattle.pcrf_values.specs.Places.{OfRuleName, address, prefix}
use Rattle.pcrf_values.specs.Values.{Value, Address, Prefix}
use Rattle.pcrf_model.specs.Holdings.{Holding, facts_on}
use Rattle.pcrf_model.specs.Sessions.{Session, Gx, gx}
use Rattle.pcrf_model.specs.Tables.{Tables}
use Rattle.pcrf_model.specs.Views.{View, view, value}
use Rattle.bind_index.specs.Index.{IndexValue, Covers, listed_at, listed_in}
use Rattle.bind_index.specs.Networks.{all_networks, network_of, spans_networks}
use Rattle.pcc_rules.specs.Cached.{RulesValue, cached_at, AreCached}
use Rattle.rule_delta.specs.Waits.{WaitingValue, DueWait, Keeps, WaitsIfDue}
use Rattle.rule_delta.specs.Abandoned.{AbandonedWait}
use Rattle.indexed_state.specs.declared.reached.Reached.{Reached}

-- operator tables, and what is held
pub record IndexedValue : Type 0 where
  pub tables : Tables
  pub holding : Holding

-- with another holding
abbrev pub with_holding : IndexedValue → Holding → IndexedValue
with_holding x h = record x { holding = h }

-- an index that is whole covers what is held, each list of rules that isn't stale is that of its session, each session that is due at a site waits for a
-- push, and each that is abandoned there for an abort
pub record Agree (t : Tables) (i : ℕ) (h : Holding) (is_whole : Bool) (index : IndexValue) (lists : RulesValue) (w x : WaitingValue) : Type 0 where
  pub covers : is_whole ≡ true → Covers (view h.facts) index
  pub kept : AreCached t (view h.facts) lists
  pub due : DueWait t i (view h.facts) w
  pub abandoned : AbandonedWait i (view h.facts) x

-- an address of the code, as what a place shows
abbrev pub address_value : Ipv4Addr → Value
address_value a = Address (ipv4_octets a)

-- it is what the session shows as its address
abbrev pub IsAddressOf : View → Session → Option Ipv4Addr → Type 0
IsAddressOf v s a = option_map address_value a ≡ value v s address

-- it is what the session shows as its prefix
abbrev pub IsPrefixOf : View → Session → Option Ipv6Prefix → Type 0
IsPrefixOf v s p = option_map Prefix p ≡ value v s prefix

-- where the user of the session is reached is what it shows
pub record IsReached (v : View) (s : Session) (r : Reached) : Type 0 where
  pub at_address : IsAddressOf v s r.address
  pub at_prefix : IsPrefixOf v s r.prefix

-- no list of rules is kept, and all sessions wait
pub record Unsettled (lists : RulesValue) (w : WaitingValue) : Type 0 where
  pub stale : (id : List ℕ) → cached_at lists id ≡ None
  pub waits : w.all ≡ true

-- there is a prefix, and it spans networks
abbrev pub spans : Option Ipv6Prefix → Bool
spans None = false
spans (Some p) = spans_networks p

-- the gateway's session is listed under the address, or under the network of the prefix, or with those that span networks where there is a prefix
abbrev pub IsNear : IndexValue → Reached → List ℕ → Type 0
IsNear index r id =
    ((a : Ipv4Addr) × (r.address ≡ Some a) × In id (listed_at index Gx a))
    ⊎ ((p : Ipv6Prefix) × (r.prefix ≡ Some p) × (In id (listed_in index Gx (network_of p)) ⊎ In id (listed_in index Gx all_networks)))

-- no list of rules is another, and those of the gateways' sessions that are listed under the address are stale
pub record TouchesAt (before after : RulesValue) (index : IndexValue) (at : Option Ipv4Addr) : Type 0 where
  pub gone : (a : Ipv4Addr) → at ≡ Some a → (id : List ℕ) → In id (listed_at index Gx a) → cached_at after id ≡ None
  pub same : (id : List ℕ) (rs : List RuleValue) → cached_at after id ≡ Some rs → cached_at before id ≡ Some rs

-- so are those of the sessions of the prefix's network, and of those that span networks
pub record TouchesBy (before after : RulesValue) (index : IndexValue) (by : Option Ipv6Prefix) : Type 0 where
  pub gone : (p : Ipv6Prefix) → by ≡ Some p → (id : List ℕ) → In id (listed_in index Gx (network_of p)) ⊎ In id (listed_in index Gx all_networks) → cached_at after id ≡ None
  pub same : (id : List ℕ) (rs : List RuleValue) → cached_at after id ≡ Some rs → cached_at before id ≡ Some rs

-- these wait too
pub record WaitsBy (v : View) (index : IndexValue) (w : WaitingValue) (by : Option Ipv6Prefix) : Type 0 where
  pub each : (p : Ipv6Prefix) → by ≡ Some p → (id : List ℕ) → In id (listed_in index Gx (network_of p)) ⊎ In id (listed_in index Gx all_networks) → WaitsIfDue v w (gx id)

-- the lists of rules of those that are near are stale, and they wait; no list is another, and who waited waits
pub record IsUnsettled (v : View) (index : IndexValue) (r : Reached) (before after : RulesValue) (u w : WaitingValue) : Type 0 where
  pub gone : (id : List ℕ) → IsNear index r id → cached_at after id ≡ None
  pub same : (id : List ℕ) (rs : List RuleValue) → cached_at after id ≡ Some rs → cached_at before id ≡ Some rs
  pub keeps : Keeps u w
  pub waits : (id : List ℕ) → IsNear index r id → WaitsIfDue v w (gx id)

-- the fact tells a gateway something of a rule
abbrev pub tells : Fact → Bool
tells (Field (OfRuleName n) t v) = true
tells f = false

-- these facts of a session are what is held of it, with what its gateway is told
pub record IsTold (h : Holding) (s : Session) (known : List Fact) : Type 0 where
  pub told : List Fact
  pub each : (f : Fact) → In f told → tells f ≡ true
  pub joins : known ≡ join_of (facts_on h.facts s) (kept_list told)
