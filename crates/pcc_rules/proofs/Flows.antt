-- The rules of the flows of bound sessions, record by record, are those that the view has.
use Rattle.std.proofs.Common.{◌≡◌, ℕ, Bool, true, cond, List, [], ◌∷◌, Some, None, inl, inr, refl, sym, ap, ◌∙◌, subst, option_and_then}
use Rattle.std.specs.List.{filter_map}
use Rattle.pcrf_values.specs.Sets.{In, Same}
use Rattle.pcrf_values.proofs.Plain.{came_from, split}
use Rattle.pcrf_values.proofs.OrderLaws.{nat_ranked, pair_ranked}
use Rattle.std.specs.Ordering.{nat_cmp}
use Rattle.pcrf_values.specs.Orders.{pair_cmp}
use Rattle.pcrf_values.proofs.PartLaws.{In-flat_map, flat_map-In}
use Rattle.pcrf_values.proofs.SetLaws.{In-filter_map, filter_map-In}
use Rattle.pcrf_values.proofs.AscendingLaws.{ascending-In}
use Rattle.pcrf_values.specs.RuleValues.{RuleValue}
use Rattle.pcrf_values.specs.Facts.{Fact, Field}
use Rattle.pcrf_values.specs.FlowWords as words
use Rattle.pcrf_values.specs.Held.{entry_shown, kept_list}
use Rattle.pcrf_values.specs.Places.{Place, FlowField, FlowDescriptions, OfFlow}
use Rattle.pcrf_values.specs.Values.{Entry}
use Rattle.pcrf_values.proofs.ShownLaws.{held_shows_the_same, fact_there}
use Rattle.pcrf_model.specs.Holdings.{SessionFact, facts_on}
use Rattle.pcrf_model.specs.Sessions.{Session, Af, af}
use Rattle.pcrf_model.specs.Views.{View, Shown, view, value, shown_of, as_filters}
use Rattle.pcrf_model.specs.Bindings.{is_bound_to}
use Rattle.pcrf_model.specs.Tables.{Tables}
use Rattle.pcrf_model.specs.Flows.{FlowId, filters}
use Rattle.pcrf_model.specs.Rules.{flow_at, rule_of, rule_at, flow_rules}
use Rattle.pcrf_model.proofs.ViewLaws.{In-all, all-shows}
use Rattle.pcrf_model.proofs.RuleNames.{BoundFlowsAreLow, and_then, filters_at, bound_kind}
use Rattle.site_join.specs.States.{Records}
use Rattle.bind_index.proofs.Alike.{was_there}
use Rattle.bind_index.proofs.Entries.{AreRecordsOf, its_facts, has_record}
use Rattle.pcc_rules.specs.Listed.{HasBound}
use Rattle.pcc_rules.specs.FlowsAlone.{alone, flow_of, rules_of_flows, rules_of_sessions, IsLow, AreLow, AreLowWhereBound}

-- a session of the application function is that of its Session-Id
af_is : (a : Session) → a.kind ≡ Af → af a.id ≡ a
af_is a h = λ i. record { kind = sym h i; id = a.id }

-- a flow of which a field shows is listed
flow_listed : (fs : List Fact) (c n : ℕ) (f : FlowField) (e : Entry) → entry_shown fs (OfFlow c n f) ≡ Some e → In (c, n) (words.flows fs)
flow_listed fs c n f e h =
    let there = fact_there (kept_list fs) (OfFlow c n f) e ((held_shows_the_same fs).shows (OfFlow c n f) ∙ h) in
    (ascending-In (pair_cmp nat_cmp nat_cmp) (pair_ranked nat_ranked nat_ranked) (filter_map words.flow_of (kept_list fs)) (c, n)).1
    (In-filter_map words.flow_of (Field (OfFlow c n f) e.0 e.1) (c, n) (kept_list fs) there refl)

-- what holds of each flow holds of one
low_member : (x : ℕ × ℕ) (fs : List (ℕ × ℕ)) → AreLow fs → In x fs → IsLow x
low_member x [] l i = absurd i
low_member x (f ∷ fs) l (inl q) = subst IsLow (sym q) l.0
low_member x (f ∷ fs) l (inr i) = low_member x fs l.1 i

-- and of the flows of a session that is bound
low_record : (v : View) (s : Session) (e : List ℕ × List Fact) (es : Records) → AreLowWhereBound v s es → In e es → is_bound_to v s (af e.0) ≡ true → AreLow (words.flows e.1)
low_record v s e [] l i b = absurd i
low_record v s e (d ∷ es) l (inl q) b =
    subst (λ (z : List ℕ × List Fact). AreLow (words.flows z.1)) (sym q) (l.0 (subst (λ (z : List ℕ × List Fact). is_bound_to v s (af z.0) ≡ true) q b))
low_record v s e (d ∷ es) l (inr i) b = low_record v s e es l.1 i b

-- all records have it
pub all_have : (facts : List SessionFact) (s : Session) (es : Records) → AreRecordsOf af facts es → HasBound facts s es
all_have facts s es r = record { own = its_facts facts es r; has = λ id p x _ h. has_record facts es r id p x h }

module _ (t : Tables) (facts : List SessionFact) (s : Session) (es : Records) (r : HasBound facts s es) where
  -- what is read of the facts
  abbrev v : View
  v = view facts

  -- the rules of a record's flows, where it is bound
  abbrev of_record : List ℕ × List Fact → List RuleValue
  of_record e = cond (is_bound_to v s (af e.0)) (rules_of_flows t e.0 e.1) []

  -- the rule of a flow is read of its session alone
  read_alone : (id : List ℕ) (c n : ℕ) → rule_of t (alone (facts_on facts (af id))) (flow_of id c n) ≡ rule_of t v (flow_of id c n)
  unfolding view
  read_alone id c n = refl

  -- where a field of a flow of an AF session that is bound shows, the session has a record that lists the flow
  pub listed_there : (id : List ℕ) (c n : ℕ) (f : FlowField) (e : Entry) → is_bound_to v s (af id) ≡ true → v.shows (af id) (OfFlow c n f) ≡ Some e
      → In (id, facts_on facts (af id)) es × In (c, n) (words.flows (facts_on facts (af id)))
  unfolding view
  listed_there id c n f e b h = (r.has id (OfFlow c n f) e b h, flow_listed (facts_on facts (af id)) c n f e h)

  -- each rule of a flow is of a record
  forth : (x : RuleValue) → In x (flow_rules t v s) → In x (rules_of_sessions t v s es)
  forth x i =
      let w = filter_map-In (rule_at t v s) x v.all i in
      let q : Shown = w.0 in
      let b = came_from (is_bound_to v s q.session) (option_and_then (rule_of t v) (flow_at q.session q.place)) x w.2 in
      let f = and_then (rule_of t v) (flow_at q.session q.place) x b.1 in
      let z : FlowId = f.0 in
      let p = filters_at q.session q.place z f.1 in
      let id : List ℕ = q.session.id in
      let its : af id ≡ q.session = af_is q.session (bound_kind facts s q.session b.0) in
      let place : v.shows q.session (OfFlow z.component z.flow FlowDescriptions) ≡ Some (q.tag, q.value) =
      subst (λ (y : Place). v.shows q.session y ≡ Some (q.tag, q.value)) p.1 (all-shows facts q w.1) in
      let bound : is_bound_to v s (af id) ≡ true = ap (is_bound_to v s) its ∙ b.0 in
      let there = listed_there id z.component z.flow FlowDescriptions (q.tag, q.value) bound (ap (λ (a : Session). v.shows a (OfFlow z.component z.flow FlowDescriptions)) its ∙ place) in
      let same : flow_of id z.component z.flow ≡ z = λ j. record { session = (its ∙ sym p.0) j; component = z.component; flow = z.flow } in
      let gives : rule_of t (alone (facts_on facts (af id))) (flow_of id z.component z.flow) ≡ Some x = read_alone id z.component z.flow ∙ ap (rule_of t v) same ∙ f.2 in
      let listed = In-filter_map (λ (g : ℕ × ℕ). rule_of t (alone (facts_on facts (af id))) (flow_of id g.0 g.1)) (z.component, z.flow) x (words.flows (facts_on facts (af id))) there.1 gives in
      In-flat_map of_record (id, facts_on facts (af id)) x es there.0
      (subst (λ (y : Bool). In x (cond y (rules_of_flows t id (facts_on facts (af id))) [])) (sym bound) listed)

  -- where filters of a flow are read they show
  filters_show : (i : FlowId) (fs : List (List ℕ)) → filters v i ≡ Some fs → (e : Entry) × (v.shows i.session (OfFlow i.component i.flow FlowDescriptions) ≡ Some e)
  filters_show i fs h =
      let y = and_then as_filters (value v i.session (OfFlow i.component i.flow FlowDescriptions)) fs h in
      was_there _ (v.shows i.session (OfFlow i.component i.flow FlowDescriptions)) y.0 y.1

  -- of a session that is bound the rule of a flow is one of the view's
  of_flow : (id : List ℕ) (c n : ℕ) (x : RuleValue) → is_bound_to v s (af id) ≡ true → rule_of t v (flow_of id c n) ≡ Some x → In x (flow_rules t v s)
  of_flow id c n x b h =
      let f = and_then _ (filters v (flow_of id c n)) x h in
      let e = filters_show (flow_of id c n) f.0 f.1 in
      In-filter_map (rule_at t v s) (shown_of (af id) (OfFlow c n FlowDescriptions) e.0) x v.all (In-all facts (af id) (OfFlow c n FlowDescriptions) e.0 e.1)
      (ap (λ (y : Bool). cond y (rule_of t v (flow_of id c n)) None) b ∙ h)

  -- and each of a record is a rule of a flow
  back : (x : RuleValue) → In x (rules_of_sessions t v s es) → In x (flow_rules t v s)
  back x i =
      let w = flat_map-In of_record x es i in
      elim (split (is_bound_to v s (af w.0.0))) [
        | inl b ↦
            let l = filter_map-In (λ (g : ℕ × ℕ). rule_of t (alone w.0.1) (flow_of w.0.0 g.0 g.1)) x (words.flows w.0.1)
            (subst (λ (y : Bool). In x (cond y (rules_of_flows t w.0.0 w.0.1) [])) b w.2) in
            of_flow w.0.0 l.0.0 l.0.1 x b
            (sym (read_alone w.0.0 l.0.0 l.0.1) ∙ ap (λ (fs : List Fact). rule_of t (alone fs) (flow_of w.0.0 l.0.0 l.0.1)) (r.own w.0 w.1) ∙ l.2)
        | inr b ↦ absurd (subst (λ (y : Bool). In x (cond y (rules_of_flows t w.0.0 w.0.1) [])) b w.2)
      ]

  -- so both are the same rules
  pub same_rules : Same (rules_of_sessions t v s es) (flow_rules t v s)
  same_rules x = (back x, forth x)

  -- the numbers of the flows of bound sessions have 32 bits, as those of the records have
  pub low_flows : AreLowWhereBound v s es → BoundFlowsAreLow v s
  low_flows l a c n e b h =
      let its : af a.id ≡ a = af_is a (bound_kind facts s a b) in
      let bound : is_bound_to v s (af a.id) ≡ true = ap (is_bound_to v s) its ∙ b in
      let there = listed_there a.id c n FlowDescriptions e bound (ap (λ (z : Session). v.shows z (OfFlow c n FlowDescriptions)) its ∙ h) in
      low_member (c, n) (words.flows (facts_on facts (af a.id)))
      (low_record v s (a.id, facts_on facts (af a.id)) es l there.0 bound) there.1
