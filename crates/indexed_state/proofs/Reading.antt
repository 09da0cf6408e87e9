-- What the code reads of where users are reached, and what is stale, unlisted and waits at addresses.
use Rattle.std.proofs.Common.{◌≡◌, ℕ, List, [], Option, Some, None, refl, sym, ap, ◌∙◌, subst, option_map}
use Rattle.std.specs.Net.Addr.{ipv4_octets}
use Rattle.std.specs.declared.net.ipv4_addr.Ipv4Addr.{Ipv4Addr}
use Rattle.pcrf_values.specs.Sets.{In}
use Rattle.pcrf_values.proofs.Plain.{none_some, some_same}
use Rattle.pcrf_values.specs.Facts.{Fact}
use Rattle.pcrf_values.specs.Held.{entry_shown}
use Rattle.pcrf_values.specs.Places.{address, prefix}
use Rattle.pcrf_values.specs.Values.{Value, Address, Entry}
use Rattle.pcrf_model.specs.Holdings.{SessionFact, facts_on}
use Rattle.pcrf_model.specs.Sessions.{Session, Gx}
use Rattle.pcrf_model.specs.Views.{View, view, value}
use Rattle.bind_index.specs.Forgetting.{ShowsAddress}
use Rattle.bind_index.specs.Index.{IndexValue, listed_at}
use Rattle.pcc_rules.specs.Cached.{RulesValue, AreStale}
use Rattle.rule_delta.proofs.Reading.{value_shown}
use Rattle.indexed_state.specs.Indexed.{address_value, IsAddressOf, TouchesAt}

-- what a record shows as its address is what the view has
pub address_shown : (facts : List SessionFact) (s : Session) (known : List Fact) (o : Option Entry) → known ≡ facts_on facts s → o ≡ entry_shown known address
    → option_map (λ (e : Entry). e.1) o ≡ value (view facts) s address
address_shown facts s known o k e = value_shown facts s known address o k e

-- and so is what it shows as its prefix
pub prefix_shown : (facts : List SessionFact) (s : Session) (known : List Fact) (o : Option Entry) → known ≡ facts_on facts s → o ≡ entry_shown known prefix
    → option_map (λ (e : Entry). e.1) o ≡ value (view facts) s prefix
prefix_shown facts s known o k e = value_shown facts s known prefix o k e

-- what is mapped from something was there
pub mapped : {A B : Type 0} (f : A → B) (o : Option A) (y : B) → option_map f o ≡ Some y → (x : A) × (o ≡ Some x) × (f x ≡ y)
mapped f None y h = none_some y h
mapped f (Some x) y h = (x, refl, some_same (f x) y h)

-- the octets of an address
abbrev octets_in : Value → List ℕ
octets_in (Address a) = a
octets_in v = []

-- addresses that are shown alike are the same
pub same_address : (a b : Ipv4Addr) → address_value a ≡ address_value b → a ≡ b
same_address a b e = let octets : ipv4_octets a ≡ ipv4_octets b = ap octets_in e in λ j. record { octets = octets j }

-- where what is shown isn't the address, the address isn't shown
pub not_shown : (v : View) (s : Session) (after : Option Ipv4Addr) (a : Ipv4Addr) → IsAddressOf v s after → (after ≡ Some a → ⊥) → ¬ ShowsAddress v s a
not_shown v s after a is other h =
    let m = mapped address_value after (address_value a) (is ∙ h) in
    other (m.1 ∙ ap Some (same_address m.0 a m.2))

-- where there is no address nothing is stale
pub nowhere : (kept : RulesValue) (index : IndexValue) → TouchesAt kept kept index None
nowhere kept index = record { gone = λ a e. none_some a e; same = λ id rs e. e }

-- the lists that are stale are those at the address
pub touched : (before after : RulesValue) (index : IndexValue) (a : Ipv4Addr) → AreStale before after (listed_at index Gx a) → TouchesAt before after index (Some a)
touched before after index a h = record {
  gone = λ b e id m. h.gone id (subst (λ (x : Ipv4Addr). In id (listed_at index Gx x)) (sym (some_same a b e)) m);
  same = λ id rs e. sym (h.others id (λ m. none_some rs (sym (h.gone id m) ∙ e))) ∙ e;
}

-- addresses with the same octets are the same, where they are given
pub octets_same : (a b : Option Ipv4Addr) → option_map ipv4_octets a ≡ option_map ipv4_octets b → a ≡ b
octets_same None None e = refl
octets_same None (Some b) e = none_some _ e
octets_same (Some a) None e = none_some _ (sym e)
octets_same (Some a) (Some b) e = let octets : ipv4_octets a ≡ ipv4_octets b = some_same _ _ e in ap Some (λ j. record { octets = octets j })
