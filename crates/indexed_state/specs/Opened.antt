-- When a gateway's session of which nothing was known comes alone: no call can be bound to it, so its rules are the operator's.
use Rattle.std.specs.Prelude.{◌≡◌, ℕ, false, true, List, [], map, Some}
use Rattle.std.specs.declared.net.ipv4_addr.Ipv4Addr.{Ipv4Addr}
use Rattle.pcrf_values.specs.Sets.{Distinct}
use Rattle.pcrf_values.specs.Prefixes.{Ipv6Prefix}
use Rattle.pcrf_values.specs.RuleValues.{RuleValue}
use Rattle.pcrf_values.specs.Facts.{Fact}
use Rattle.pcrf_values.specs.FlowWords.{value_at}
use Rattle.pcrf_values.specs.Held.{entry_shown}
use Rattle.pcrf_values.specs.Places.{address, prefix}
use Rattle.pcrf_values.specs.Values.{Value, Prefix}
use Rattle.pcrf_model.specs.Bindings.{matches}
use Rattle.pcrf_model.specs.Differences.{rule_name_of}
use Rattle.pcrf_model.specs.Holdings.{Holding, facts_on}
use Rattle.pcrf_model.specs.Laws.{DifferInOne}
use Rattle.pcrf_model.specs.Rules.{rules}
use Rattle.pcrf_model.specs.Sessions.{Af, Session, gx}
use Rattle.pcrf_model.specs.Tables.{Tables}
use Rattle.pcrf_model.specs.Views.{view}
use Rattle.bind_index.specs.Index.{IndexValue, listed_at, listed_in}
use Rattle.bind_index.specs.Networks.{network_of, spans_networks}
use Rattle.pcc_rules.specs.Cached.{RulesValue, cached_at}
use Rattle.indexed_state.specs.Alike.{ShowAlike}
use Rattle.indexed_state.specs.Indexed.{address_value}

-- no call is listed under the address that these facts of a session show
pub record NoCallAt (index : IndexValue) (known : List Fact) : Type 0 where
  pub none : (x : Value) → value_at (entry_shown known) address ≡ Some x → (a : Ipv4Addr) × (x ≡ address_value a) × (listed_at index Af a ≡ [])

-- nor under the network of the prefix that they show, which is of one network
pub record NoCallIn (index : IndexValue) (known : List Fact) : Type 0 where
  pub none : (p : Ipv6Prefix) → value_at (entry_shown known) prefix ≡ Some (Prefix p) → (spans_networks p ≡ false) × (listed_in index Af (network_of p) ≡ [])

-- no session can be bound to the gateway's session, its rules are these, and no two of them have one name (TS 29.213, 5.2; TS 23.203, 6.3.1)
pub record IsAlone (t : Tables) (k : Holding) (id : List ℕ) (rs : List RuleValue) : Type 0 where
  pub unmatched : (a : Session) → matches (view k.facts) a (gx id) ≡ true → ⊥
  pub has : rules t (view k.facts) (gx id) ≡ rs
  pub apart : Distinct (map rule_name_of rs)

-- nothing is known of the gateway's session, and with whatever facts that show alike with these it is alone
pub record OpensAlone (t : Tables) (h : Holding) (id : List ℕ) (known : List Fact) (rs : List RuleValue) : Type 0 where
  pub unknown : facts_on h.facts (gx id) ≡ []
  pub alone : (k : Holding) → DifferInOne h.facts k.facts (gx id) → ShowAlike known (facts_on k.facts (gx id)) → IsAlone t k id rs

-- of that session these rules are kept, or none, and of each other what was kept
pub record KeepsOne (before after : RulesValue) (id : List ℕ) (rs : List RuleValue) : Type 0 where
  pub own : (xs : List RuleValue) → cached_at after id ≡ Some xs → xs ≡ rs
  pub others : (q : List ℕ) → ¬ (q ≡ id) → cached_at after q ≡ cached_at before q
