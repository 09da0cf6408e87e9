-- No two rules of a session have one name.
use Rattle.std.proofs.Common.{◌≡◌, ℕ, ◌<◌, ◌^◌, true, false, cond, not, List, [], ◌∷◌, ◌++◌, map, Option, Some, None, inl, inr, refl, sym, ap, ◌∙◌, subst, option_map, option_and_then, unwrap_or, decimal, arith}
use Rattle.std.specs.Prelude.{codes}
use Rattle.std.specs.Ordering.{is_eq}
use Rattle.std.specs.Cmp.{first_so}
use Rattle.std.proofs.lemmas.List.{append_cancel_left}
use Rattle.pcrf_values.specs.Ascending.{ascending}
use Rattle.pcrf_values.specs.RuleValues.{RuleValue}
use Rattle.pcrf_values.proofs.Plain.{clash, some_same, came_from}
use Rattle.pcrf_values.specs.Sets.{In, Distinct}
use Rattle.pcrf_values.specs.Places.{FlowDescriptions, Place, OfFlow, apn}
use Rattle.pcrf_values.specs.Facts.{Field}
use Rattle.pcrf_values.specs.Values.{Entry}
use Rattle.pcrf_values.proofs.FactLaws.{rule_ranked}
use Rattle.pcrf_values.proofs.ShownLaws.{fact_there}
use Rattle.pcrf_model.specs.Sessions.{Kind, Gx, Af, Session, session_cmp, is_gx}
use Rattle.pcrf_model.specs.Holdings.{SessionFact, facts_on}
use Rattle.pcrf_model.specs.Views.{View, view, text}
use Rattle.pcrf_model.specs.Live.{is_live}
use Rattle.pcrf_model.specs.Bindings.{bind, is_bound_to}
use Rattle.pcrf_model.specs.Tables.{OperatorRule, ApnRow, Class, Tables, apn_row}
use Rattle.pcrf_model.specs.Flows.{FlowId, filters, class_of, flow_rule_name, flow_rule}
use Rattle.pcrf_model.specs.Rules.{flow_at, rule_of, rule_at, apn_of, operator_rule, operator_rules, flow_rules, listed_cmp, rules}
use Rattle.pcrf_model.specs.Differences.{rule_name_of}
use Rattle.pcrf_model.specs.Forms.{are_tables}
use Rattle.pcrf_values.proofs.SetLaws.{In-cases, filter_map-In, map-In}
use Rattle.pcrf_values.proofs.OrderLaws.{IsRanked, nat_ranked, pair_ranked, on_ranked}
use Rattle.pcrf_values.proofs.AscendingLaws.{ascending-In, ascending-ascending, Distinct-ascending}
use Rattle.pcrf_values.proofs.DistinctLaws.{one_of_key, Distinct-map}
use Rattle.pcrf_model.proofs.HoldingLaws.{facts_on-In}
use Rattle.pcrf_model.proofs.ViewLaws.{sessions_alone, all-shows}
use Rattle.pcrf_model.proofs.FormReading.{FlowsFit, table_row}
use Rattle.pcrf_model.proofs.BindLaws.{bind-greatest}
use Rattle.pcrf_model.proofs.NameLaws.{heads, parts_of_name}

-- the order of listed rules is one
pub listed_ranked : IsRanked listed_cmp
listed_ranked = on_ranked (λ (r : RuleValue). (r.precedence, r)) (λ p. p.1) (λ _. refl) (pair_ranked nat_ranked rule_ranked)

-- ---- the operator's

-- the row of a session is a row of the tables
pub row_of : (t : Tables) (name : Option (List ℕ)) (r : ApnRow) → option_and_then (apn_row t) name ≡ Some r → (n : List ℕ) × (apn_row t n ≡ Some r)
row_of t None r h = absurd (cc)
row_of t (Some n) r h = (n, h)

-- the rules of an access point's row
abbrev of_row : Option ApnRow → List RuleValue
of_row row = unwrap_or (option_map (λ (r : ApnRow). map operator_rule r.rules) row) []

-- an operator's rule has its prefix
named_op : (row : Option ApnRow) (x : RuleValue) → In x (of_row row) → (n : List ℕ) × (x.name ≡ codes "op/" ++ n)
named_op None x i = absurd i
named_op (Some r) x i = let w = map-In operator_rule x r.rules i in (w.0.name, ap rule_name_of w.2)

-- an operator's rules of one name are one
one_op : (row : Option ApnRow) → ((r : ApnRow) → row ≡ Some r → Distinct (map (λ (x : OperatorRule). x.name) r.rules)) → (x y : RuleValue) → In x (of_row row) → In y (of_row row) → x.name ≡ y.name → x ≡ y
one_op None apart x y i j e = absurd i
one_op (Some r) apart x y i j e =
    let w = map-In operator_rule x r.rules i in
    let z = map-In operator_rule y r.rules j in
    let same : w.0.name ≡ z.0.name = append_cancel_left (codes "op/") w.0.name z.0.name (sym (ap rule_name_of w.2) ∙ e ∙ ap rule_name_of z.2) in
    w.2 ∙ ap operator_rule (one_of_key (λ (x : OperatorRule). x.name) r.rules (apart r refl) w.0 z.0 w.1 z.1 same) ∙ sym z.2

-- ---- the flows'

-- what comes of two came of both
pub and_then : {A B : Type 0} (f : A → Option B) (x : Option A) (y : B) → option_and_then f x ≡ Some y → (z : A) × (x ≡ Some z) × (f z ≡ Some y)
and_then f None y h = absurd (cc)
and_then f (Some z) y h = (z, refl, h)

-- the place of a flow's filters tells of the flow
pub filters_at : (a : Session) (p : Place) (i : FlowId) → flow_at a p ≡ Some i → (i.session ≡ a) × (p ≡ OfFlow i.component i.flow FlowDescriptions)
filters_at a (OfFlow c n FlowDescriptions) i h =
    let same : record { session = a; component = c; flow = n } ≡ i = some_same _ _ h in
    (sym (ap (λ (z : FlowId). z.session) same), ap (λ (z : FlowId). OfFlow z.component z.flow FlowDescriptions) same)
filters_at a p i h = absurd (cc)

-- the rule of a flow has the flow's name
name_of : (t : Tables) (v : View) (i : FlowId) (fs : Option (List (List ℕ))) (cl : Option Class) (x : RuleValue)
    → option_and_then (λ f. option_map (λ c. flow_rule t v i f c) cl) fs ≡ Some x → x.name ≡ flow_rule_name i
name_of t v i None cl x h = absurd (cc)
name_of t v i (Some f) None x h = absurd (cc)
name_of t v i (Some f) (Some c) x h = sym (ap rule_name_of (some_same (flow_rule t v i f c) x h))

-- a session that is not of the gateway is of the application function
kind_af : (k : Kind) → not (is_gx k) ≡ true → k ≡ Af
kind_af Gx h = clash false h refl
kind_af Af h = refl

module _ (facts : List SessionFact) (s : Session) where
  -- a session that is bound is bound to some session
  bound_is_some : (a : Session) (x : Option Session) → unwrap_or (option_map (λ z. is_eq (session_cmp z s)) x) false ≡ true → (z : Session) × (x ≡ Some z)
  bound_is_some a None h = clash false h refl
  bound_is_some a (Some z) h = (z, refl)

  -- a session that is bound is an AF session
  pub bound_kind : (a : Session) → is_bound_to (view facts) s a ≡ true → a.kind ≡ Af
  bound_kind a h =
      let z = bound_is_some a (bind (view facts) a) h in
      let m = ((bind-greatest facts a z.0).0 z.1).fits in
      kind_af a.kind (first_so _ _ (first_so _ _ m))

-- what is known of a rule of a flow
pub record IsOfFlow (t : Tables) (v : View) (x : RuleValue) : Type 0 where
  pub flow : FlowId
  pub gives : rule_of t v flow ≡ Some x
  pub kind : flow.session.kind ≡ Af
  pub low_component : flow.component < 2 ^ 32
  pub low_flow : flow.flow < 2 ^ 32

-- the flows that show filters, of sessions that are bound to s, have numbers of 32 bits
abbrev pub BoundFlowsAreLow : View → Session → Type 0
BoundFlowsAreLow v s = (a : Session) (c n : ℕ) (e : Entry) → is_bound_to v s a ≡ true → v.shows a (OfFlow c n FlowDescriptions) ≡ Some e → (c < 2 ^ 32) × (n < 2 ^ 32)

-- so have all whose facts are in form
pub flows_fit_low : (facts : List SessionFact) (s : Session) → FlowsFit facts → BoundFlowsAreLow (view facts) s
flows_fit_low facts s fit a c n e _ h =
    let there = facts_on-In facts a (Field (OfFlow c n FlowDescriptions) e.0 e.1)
    (fact_there (facts_on facts a) (OfFlow c n FlowDescriptions) e (sym ((sessions_alone facts a).shows (OfFlow c n FlowDescriptions)) ∙ h)) in
    (fit.low_component a c n FlowDescriptions e.0 e.1 there, fit.low_flow a c n FlowDescriptions e.0 e.1 there)

module _ (t : Tables) (facts : List SessionFact) (s : Session) (low : BoundFlowsAreLow (view facts) s) where
  -- what is read of the facts
  abbrev v : View
  v = view facts

  -- each rule of a flow is so
  pub of_flow : (x : RuleValue) → In x (flow_rules t v s) → IsOfFlow t v x
  of_flow x i =
      let r = filter_map-In (rule_at t v s) x v.all i in
      let b = came_from (is_bound_to v s r.0.session) (option_and_then (rule_of t v) (flow_at r.0.session r.0.place)) x r.2 in
      let f = and_then (rule_of t v) (flow_at r.0.session r.0.place) x b.1 in
      let n = filters_at r.0.session r.0.place f.0 f.1 in
      let shows = subst (λ (p : Place). v.shows r.0.session p ≡ Some (r.0.tag, r.0.value)) n.1 (all-shows facts r.0 r.1) in
      let numbers = low r.0.session f.0.component f.0.flow (r.0.tag, r.0.value) b.0 shows in
      record {
        flow = f.0;
        gives = f.2;
        kind = ap (λ (z : Session). z.kind) n.0 ∙ bound_kind facts s r.0.session b.0;
        low_component = numbers.0;
        low_flow = numbers.1;
      }

  -- and has the flow's name
  named_flow : (x : RuleValue) (o : IsOfFlow t v x) → x.name ≡ flow_rule_name o.flow
  named_flow x o = name_of t v o.flow (filters v o.flow) (class_of t v o.flow) x o.gives

  -- rules of flows of one name are one
  one_flow : (x y : RuleValue) → IsOfFlow t v x → IsOfFlow t v y → x.name ≡ y.name → x ≡ y
  one_flow x y o p e =
      let text = append_cancel_left (codes "af/")
      (o.flow.session.id ++ codes "/" ++ decimal o.flow.component ++ codes "/" ++ decimal o.flow.flow)
      (p.flow.session.id ++ codes "/" ++ decimal p.flow.component ++ codes "/" ++ decimal p.flow.flow)
      (sym (named_flow x o) ∙ e ∙ named_flow y p) in
      let parts = parts_of_name o.flow.session.id p.flow.session.id o.flow.component p.flow.component o.flow.flow p.flow.flow o.low_component p.low_component o.low_flow p.low_flow text in
      let kinds : o.flow.session.kind ≡ p.flow.session.kind = o.kind ∙ sym p.kind in
      let same : o.flow ≡ p.flow = λ i. record { session = record { kind = kinds i; id = parts.0 i }; component = parts.1 i; flow = parts.2 i } in
      some_same x y (sym o.gives ∙ ap (rule_of t v) same ∙ p.gives)

  -- an operator's rule and a flow's begin otherwise
  apart : (n m : List ℕ) → codes "op/" ++ n ≡ codes "af/" ++ m → ⊥
  apart n m e = let h = heads 111 97 (112 ∷ 47 ∷ n) (102 ∷ 47 ∷ m) e in omega (arith, h)

  module _ (apart_in_row : (r : ApnRow) → apn_of t v s ≡ Some r → Distinct (map (λ (x : OperatorRule). x.name) r.rules)) where
    -- no operator's rule has a flow's name
    across : (x y : RuleValue) → In x (operator_rules t v s) → In y (flow_rules t v s) → x.name ≡ y.name → ⊥
    across x y i j e =
        let o = named_op (apn_of t v s) x i in
        let f = of_flow y j in
        apart o.0 (f.flow.session.id ++ codes "/" ++ decimal f.flow.component ++ codes "/" ++ decimal f.flow.flow) (sym o.1 ∙ e ∙ named_flow y f)

    -- rules of one name are one
    one_rule : (x y : RuleValue) → In x (operator_rules t v s ++ flow_rules t v s) → In y (operator_rules t v s ++ flow_rules t v s) → x.name ≡ y.name → x ≡ y
    one_rule x y i j e = elim (In-cases x (operator_rules t v s) (flow_rules t v s) i) [
      | inl a ↦ elim (In-cases y (operator_rules t v s) (flow_rules t v s) j) [
        | inl b ↦ one_op (apn_of t v s) apart_in_row x y a b e
        | inr b ↦ absurd (across x y a b e)
      ]
      | inr a ↦ elim (In-cases y (operator_rules t v s) (flow_rules t v s) j) [
        | inl b ↦ absurd (across y x b a (sym e))
        | inr b ↦ one_flow x y (of_flow x a) (of_flow y b) e
      ]
    ]

    -- all rules, in order
    abbrev all_rules : List RuleValue
    all_rules = ascending listed_cmp (operator_rules t v s ++ flow_rules t v s)

    -- each is of the operator or of a flow
    listed : (x : RuleValue) → In x all_rules → In x (operator_rules t v s ++ flow_rules t v s)
    listed x = (ascending-In listed_cmp listed_ranked (operator_rules t v s ++ flow_rules t v s) x).0

    -- their names differ
    all_differ : Distinct (map rule_name_of all_rules)
    all_differ = Distinct-map rule_name_of all_rules
        (Distinct-ascending listed_cmp listed_ranked all_rules (ascending-ascending listed_cmp listed_ranked (operator_rules t v s ++ flow_rules t v s)))
        (λ x y i j. one_rule x y (listed x i) (listed y j))

    -- and so those of the session, live or not
    pub names_differ : Distinct (map rule_name_of (rules t v s))
    unfolding rules
    names_differ = elim (is_live v s) as (λ b. Distinct (map rule_name_of (cond b all_rules []))) [ true ↦ all_differ | false ↦ tt ]

-- for any tables and facts
pub rules-names_differ : (t : Tables) (facts : List SessionFact) (s : Session) → are_tables t ≡ true → FlowsFit facts → Distinct (map rule_name_of (rules t (view facts) s))
rules-names_differ t facts s rows fit =
    names_differ t facts s (flows_fit_low facts s fit) (λ r h. let w = row_of t (text (view facts) s apn) r h in (table_row t rows w.0 r w.1).apart)
