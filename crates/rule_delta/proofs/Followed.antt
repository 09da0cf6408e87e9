-- When all that are abandoned wait after a change was followed.
use Rattle.std.proofs.Common.{◌≡◌, ℕ, true, false, List, [], Option, Some, None, inl, inr, refl, sym, ap, ◌∙◌, subst, option_map}
use Rattle.std.specs.Net.Addr.{ipv4_octets}
use Rattle.std.specs.declared.net.ipv4_addr.Ipv4Addr.{Ipv4Addr}
use Rattle.pcrf_values.specs.Sets.{In}
use Rattle.pcrf_values.proofs.Plain.{clash, none_some, some_same}
use Rattle.pcrf_values.specs.Prefixes.{Ipv6Prefix, covers as covers_prefix}
use Rattle.pcrf_values.specs.Places.{address, prefix}
use Rattle.pcrf_values.specs.Values.{Value, Address, Prefix}
use Rattle.pcrf_model.specs.Aborting.{is_abandoned}
use Rattle.pcrf_model.specs.Bindings.{matches}
use Rattle.pcrf_model.specs.Holdings.{SessionFact}
use Rattle.pcrf_model.specs.Laws.{BindsAlike, DifferInOne}
use Rattle.pcrf_model.specs.Sessions.{Session, af, is_gx}
use Rattle.pcrf_model.specs.Views.{View, view, value}
use Rattle.pcrf_model.proofs.BindLaws.{matched}
use Rattle.pcrf_model.proofs.NeighbourLaws.{how_they_meet}
use Rattle.bind_index.specs.Index.{IndexValue, Covers, listed_at, listed_in}
use Rattle.bind_index.specs.Networks.{network_of, spans_networks}
use Rattle.bind_index.proofs.Indexed.{prefixes_met}
use Rattle.bind_index.proofs.CoveredNetworks.{one_network}
use Rattle.rule_delta.specs.Waits.{WaitingValue, waiting_of, Keeps, WaitsIfDue}
use Rattle.rule_delta.specs.Abandoned.{AbandonedWait, ListedCallsWait, NetworkCallsWait, EachCallWaits}
use Rattle.rule_delta.proofs.Parts.{of_call, at_host}
use Rattle.rule_delta.proofs.Firsts.{af_is}
use Rattle.rule_delta.proofs.Changes.{suited_enough, alike_enough}

-- an address of the code, as what a place shows
abbrev address_value : Ipv4Addr → Value
address_value a = Address (ipv4_octets a)

-- a session that waits under its host waits where it is abandoned
waits_there : (i : ℕ) (v : View) (w : WaitingValue) (s : Session) → w.all ≡ false → WaitsIfDue v w s → (name : List ℕ) → is_abandoned i v (Some name) s ≡ true
    → In s.id (waiting_of w name)
waits_there i v w s a h name u = h.there a name (at_host i v name s u)

-- where each waits all that are abandoned do
pub each_enough : (i : ℕ) (v : View) (w : WaitingValue) → EachCallWaits v w → AbandonedWait i v w
each_enough i v w h = record {
  listed = λ a. record {
    each = λ name s u.
        let named : af s.id ≡ s = af_is s s.kind refl (of_call i v (Some name) s u) in
        waits_there i v w s a (subst (λ (r : Session). WaitsIfDue v w r) named (h.each s.id)) name u;
  };
}

-- what waits goes on
pub goes_on : (i : ℕ) (v : View) (u w : WaitingValue) → Keeps u w → AbandonedWait i v u → AbandonedWait i v w
goes_on i v u w k h = record {
  listed = λ a. record { each = λ name s d. (k.stay a).each name s.id ((h.listed (k.some a)).each name s d) };
}

module _ (i : ℕ) (xs ys : List SessionFact) (d : Session) (u w : WaitingValue) (h : DifferInOne xs ys d) (k : Keeps u w) (all : AbandonedWait i (view xs) u) where
  -- what is read before and after
  abbrev v : View
  v = view xs

  abbrev z : View
  z = view ys

  -- nobody is bound to an AF session
  suits_none : is_gx d.kind ≡ false → (s : Session) → matches v s d ≡ true → ⊥
  suits_none f s m = clash (is_gx d.kind) (matched v s d m).of_gateway f

  -- where an AF session changed it is enough that it waits
  pub call_followed : is_gx d.kind ≡ false → WaitsIfDue z w d → AbandonedWait i z w
  call_followed f own = record {
    listed = λ a. suited_enough i xs ys d (waiting_of u) (waiting_of w) h (all.listed (k.some a)) (k.stay a)
        (λ name q. waits_there i z w d a own name q)
        (λ name s m q. absurd (suits_none f s m));
  }

  -- where a Gx session changed and binding reads the same of it, nobody else has to wait
  pub told_followed : BindsAlike v z d → AbandonedWait i z w
  told_followed alike = record {
    listed = λ a. alike_enough i xs ys d (waiting_of u) (waiting_of w) h (all.listed (k.some a)) (k.stay a) alike;
  }

  module _ (g : is_gx d.kind ≡ true) (index : IndexValue) (covers : Covers v index)
      (at : Option Ipv4Addr) (shows : option_map address_value at ≡ value v d address) (listed : ListedCallsWait z index w at)
      (by : Option Ipv6Prefix) (shows_prefix : option_map Prefix by ≡ value v d prefix)
      (one : (p : Ipv6Prefix) → by ≡ Some p → (spans_networks p ≡ false) × NetworkCallsWait z index w (network_of p)) where
    -- the one that changed isn't abandoned
    not_own : (name : List ℕ) → is_abandoned i z (Some name) d ≡ true → ⊥
    not_own name q = clash (is_gx d.kind) g (of_call i z (Some name) d q)

    -- what is shown is of something
    what : {A : Type 0} (f : A → Value) (o : Option A) (x : Value) → option_map f o ≡ Some x → (a : A) × (o ≡ Some a) × (f a ≡ x)
    what f None x e = none_some x e
    what f (Some a) x e = (a, refl, some_same (f a) x e)

    -- the prefix of a value
    abbrev prefix_in : Value → Ipv6Prefix
    prefix_in (Prefix p) = p
    prefix_in x = (0, [])

    -- whoever it suited waits: it is listed under the address that it showed, or under the network of its prefix
    suited_waits : w.all ≡ false → (name : List ℕ) (s : Session) → matches v s d ≡ true → is_abandoned i z (Some name) s ≡ true → In s.id (waiting_of w name)
    suited_waits a name s m q =
        waits_there i z w s a (subst (λ (r : Session). WaitsIfDue z w r) named (elim (how_they_meet v s d m) [
          | inl b ↦
              let own = what address_value at b.0 (shows ∙ b.2) in
              listed.each own.0 s.id own.1 (subst (λ (r : Session). In r.id (listed_at index r.kind own.0)) (sym named) (covers.addresses s own.0 (b.1 ∙ ap Some (sym own.2))))
          | inr b ↦
              let p = prefixes_met v s d m b.0 in
              let own = what Prefix by (Prefix p.shown) (shows_prefix ∙ p.shows) in
              let its = one own.0 own.1 in
              let shown : own.0 ≡ p.shown = ap prefix_in own.2 in
              let met : network_of own.0 ≡ network_of p.asked = one_network own.0 p.asked (subst (λ (x : Ipv6Prefix). covers_prefix x p.asked ≡ true) (sym shown) p.covered) its.0 in
              let here : In s.id (listed_in index s.kind (network_of own.0)) =
              subst (λ (n : Ipv6Prefix). In s.id (listed_in index s.kind n)) (sym met) (covers.prefixes s p.asked p.asks) in
              its.1.each s.id (subst (λ (r : Session). In r.id (listed_in index r.kind (network_of own.0))) (sym named) here)
        ])) name q
      where
        named : af s.id ≡ s
        named = af_is s s.kind refl (of_call i z (Some name) s q)

    -- so those that are listed there are enough
    pub gateway_followed : AbandonedWait i z w
    gateway_followed = record {
      listed = λ a. suited_enough i xs ys d (waiting_of u) (waiting_of w) h (all.listed (k.some a)) (k.stay a)
          (λ name q. absurd (not_own name q))
          (suited_waits a);
    }
