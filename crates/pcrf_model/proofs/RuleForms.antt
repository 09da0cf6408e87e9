-- Rules that a site gives are in form, and so are their names, and the names under which a gateway was told rules.
use Rattle.std.proofs.lemmas.Bool.Decides.{nat_tests}
use Rattle.std.proofs.lemmas.Fmt.{decimal_is_IsNumeral, length-decimal-le}
use Rattle.std.proofs.lemmas.List.Folds.{list_all-append}
use Rattle.std.proofs.lemmas.Str.Parse.{digit_from_value}
use Rattle.std.specs.Str.Parse.{AllDigits}
use Rattle.std.specs.Prelude.{codes}
use Rattle.std.proofs.Common.{◌≡◌, ℕ, min, ◌-◌, ◌<◌, ◌≤◌, ◌^◌, true, false, cond, ◌==◌, List, [], ◌∷◌, ◌++◌, map, length, find, Option, Some, None, inl, inr, refl, sym, ap, ◌∙◌, subst, option_map, option_and_then, unwrap_or, decimal, length-append, arith}
use Rattle.std.specs.Cmp.{first_so, second_so}
use Rattle.std.specs.List.{list_all}
use Rattle.pcrf_values.specs.Ascending.{ascending}
use Rattle.pcrf_values.specs.Sets.{In}
use Rattle.pcrf_values.proofs.Plain.{clash, both, some_same}
use Rattle.pcrf_values.proofs.SetLaws.{In-cases, map-In}
use Rattle.pcrf_values.proofs.DistinctLaws.{take-In}
use Rattle.pcrf_values.proofs.AscendingLaws.{ascending-In}
use Rattle.pcrf_values.specs.Limits.{session_id_limit, rule_name_limit, operator_rule_name_limit}
use Rattle.pcrf_values.specs.RuleValues.{RuleValue, DeltaValue}
use Rattle.pcrf_values.specs.Places.{ComponentStatus, FlowDescriptions, FlowStatus, Place, OfComponent, OfFlow, OfRuleName, apn}
use Rattle.pcrf_values.specs.Values.{Value, Number, Filters, Told, Entry}
use Rattle.pcrf_values.specs.Facts.{Field}
use Rattle.pcrf_values.proofs.ShownLaws.{fact_there}
use Rattle.pcrf_model.specs.Sessions.{Kind, Gx, Af, Session}
use Rattle.pcrf_model.specs.Holdings.{facts_on, Holding}
use Rattle.pcrf_values.specs.FlowWords.{or_else, as_number, number_at}
use Rattle.pcrf_model.specs.Views.{View, view, value, text, as_filters}
use Rattle.pcrf_model.specs.Live.{is_live}
use Rattle.pcrf_model.specs.Tables.{Class, OperatorRule, ApnRow, Tables, media_class}
use Rattle.pcrf_model.specs.Flows.{FlowId, of_component, filters, flow_status, is_signalling, media_type, class_of, Uplink, Downlink, asked_rate, flow_rule_name, flow_rule}
use Rattle.pcrf_model.specs.Rules.{rule_of, apn_of, operator_rule, operator_rules, flow_rules, listed_cmp, rules}
use Rattle.pcrf_values.specs.ToldWords.{ToldRule}
use Rattle.pcrf_model.specs.Differences.{told_rules_of, told_name_of, difference}
use Rattle.pcrf_model.specs.Serving.{delta_of}
use Rattle.pcrf_model.specs.Forms.{is_byte, is_text, is_unsigned, is_class, is_status, are_filters, is_rule, is_operator_rule, is_session, fits_place, is_holding, are_tables}
use Rattle.pcrf_model.proofs.HoldingLaws.{facts_on-In}
use Rattle.pcrf_model.proofs.ViewLaws.{sessions_alone}
use Rattle.pcrf_model.proofs.ToldLaws.{told-shows}
use Rattle.pcrf_model.proofs.FormReading.{each_passes, found, held_fact, fact_fits, flows_fit, table_row}
use Rattle.pcrf_model.proofs.DifferenceLaws.{removed-In, installed-In}
use Rattle.pcrf_model.proofs.RuleNames.{IsOfFlow, row_of, listed_ranked, rules-names_differ}
use Rattle.pcrf_model.proofs.RuleNames as names
use Rattle.pcrf_model.proofs.ProvisionLaws.{first_apart}
use Rattle.pcrf_model.proofs.GatewayForms.{CanTell}
use Rattle.pcrf_model.proofs.FormLaws.{le_passes, within_most}

-- ---- texts

-- a number of at most so much passes the test of what it is at most
low_unsigned : (m n : ℕ) → m ≤ n → is_unsigned n ≡ true → is_unsigned m ≡ true
low_unsigned m n l h = grind (arith, nat_tests, h)

-- two texts of bytes make one
bytes_append : (xs ys : List ℕ) → list_all is_byte xs ≡ true → list_all is_byte ys ≡ true → list_all is_byte (xs ++ ys) ≡ true
bytes_append xs ys a b = list_all-append is_byte xs ys ∙ both _ _ a b

-- digits are bytes
digits_are_bytes : (ds : List ℕ) → AllDigits 10 ds → list_all is_byte ds ≡ true
digits_are_bytes [] d = refl
digits_are_bytes (c ∷ cs) d = let k = digit_from_value c d.0 in both _ _ (grind (arith, nat_tests, k)) (digits_are_bytes cs d.1)

-- a written number has at most ten of them
record IsWritten (ds : List ℕ) : Type 0 where
  pub few : length ds ≤ 10
  pub bytes : list_all is_byte ds ≡ true

-- where it has 32 bits
written : (n : ℕ) → n < 2 ^ 32 → IsWritten (decimal n)
written n h = record {
  few = length-decimal-le 10 n (omega arith) (omega (arith, h)) (omega (arith, h));
  bytes = digits_are_bytes (decimal n) (decimal_is_IsNumeral n (omega (arith, h))).0.1;
}

-- a text of bytes, not empty, and not too long
text_of : (most : ℕ) (t : List ℕ) → 1 ≤ length t → length t ≤ most → list_all is_byte t ≡ true → is_text most t ≡ true
text_of most t l m b = both _ _ (both _ _ (le_passes 1 (length t) l) (le_passes (length t) most m)) b

-- the name of an operator's rule, with its prefix
operator_name : (n : List ℕ) → is_text operator_rule_name_limit n ≡ true → is_text rule_name_limit (codes "op/" ++ n) ≡ true
operator_name n h =
    let short = within_most 1 operator_rule_name_limit (length n) (first_so _ _ h) in
    text_of rule_name_limit (codes "op/" ++ n) (omega arith) (omega (arith, short)) (bytes_append (codes "op/") n refl (second_so _ _ h))

-- the name of a flow's rule
flow_name : (i : FlowId) → is_session i.session ≡ true → i.component < 2 ^ 32 → i.flow < 2 ^ 32 → is_text rule_name_limit (flow_rule_name i) ≡ true
flow_name i s c n =
    let id = i.session.id in
    let short = within_most 1 session_id_limit (length id) (first_so _ _ s) in
    let first = written i.component c in
    let last = written i.flow n in
    let few = first.few in
    let few_too = last.few in
    let a = length-append (codes "af/" ++ id ++ codes "/" ++ decimal i.component ++ codes "/") (decimal i.flow) in
    let b = length-append (codes "af/" ++ id ++ codes "/" ++ decimal i.component) (codes "/") in
    let d = length-append (codes "af/" ++ id ++ codes "/") (decimal i.component) in
    let e = length-append (codes "af/" ++ id) (codes "/") in
    text_of rule_name_limit (flow_rule_name i) (omega (arith, a, b, d, e)) (omega (arith, a, b, d, e, short, few, few_too))
    (bytes_append (codes "af/" ++ id ++ codes "/" ++ decimal i.component ++ codes "/") (decimal i.flow)
    (bytes_append (codes "af/" ++ id ++ codes "/" ++ decimal i.component) (codes "/")
    (bytes_append (codes "af/" ++ id ++ codes "/") (decimal i.component)
    (bytes_append (codes "af/" ++ id) (codes "/")
    (bytes_append (codes "af/") id refl (second_so _ _ s)) refl) first.bytes) refl) last.bytes)

-- ---- rules of a class

-- a rule that has a class of service, with rates up to its caps
rule_of_class : (name : List ℕ) (status : ℕ) (fs : List (List ℕ)) (c : Class) (up down : ℕ) → is_status status ≡ true → are_filters fs ≡ true → is_class c ≡ true → up ≤ c.max_ul → down ≤ c.max_dl
    → is_rule (record { name = name; status = status; filters = fs; qci = c.qci; priority = c.priority; capability = c.capability; vulnerability = c.vulnerability; max_ul = up; max_dl = down; precedence = c.precedence }) ≡ true
rule_of_class name status fs c up down s f w u d =
    let to_down = first_so _ _ w in
    let to_up = first_so _ _ to_down in
    both _ _ (both _ _ (both _ _ (both _ _ (both _ _ s f) (first_so _ _ to_up)) (low_unsigned up c.max_ul u (second_so _ _ to_up))) (low_unsigned down c.max_dl d (second_so _ _ to_down))) (second_so _ _ w)

-- a number is at most itself
itself : (n : ℕ) → n ≤ n
itself n = omega arith

-- an operator's rule
operator_rule_in_form : (r : OperatorRule) → is_operator_rule r ≡ true → is_rule (operator_rule r) ≡ true
operator_rule_in_form r w =
    let to_status = first_so _ _ w in
    let to_class = first_so _ _ to_status in
    rule_of_class (codes "op/" ++ r.name) r.status r.filters r.class r.class.max_ul r.class.max_dl (second_so _ _ to_status) (second_so _ _ w) (second_so _ _ to_class) (itself r.class.max_ul) (itself r.class.max_dl)

-- the class of a flow's service is in form
media_in_form : (t : Tables) → are_tables t ≡ true → (m : ℕ) (c : Class) → media_class t m ≡ Some c → is_class c ≡ true
media_in_form t w m c h = of_row (find (λ (r : ℕ × Class). r.0 == m) t.media) refl h
  where
    of_row : (x : Option (ℕ × Class)) → find (λ (r : ℕ × Class). r.0 == m) t.media ≡ x → option_map (λ (r : ℕ × Class). r.1) x ≡ Some c → is_class c ≡ true
    of_row None e k = absurd (cc)
    of_row (Some r) e k =
        subst (λ (z : Class). is_class z ≡ true) (some_same r.1 c k)
        (each_passes (λ (z : ℕ × Class). is_class z.1) t.media (second_so _ _ (first_so _ _ w)) r (found (λ (z : ℕ × Class). z.0 == m) t.media r e).0)

-- whether of media or of signalling
class_in_form : (t : Tables) → are_tables t ≡ true → (v : View) (i : FlowId) (c : Class) → class_of t v i ≡ Some c → is_class c ≡ true
class_in_form t w v i c = elim (is_signalling v i) as (λ b. cond b (Some t.signalling) (media_class t (media_type v i)) ≡ Some c → is_class c ≡ true) [
  | true ↦ λ h. subst (λ (z : Class). is_class z ≡ true) (some_same t.signalling c h) (first_so _ _ (first_so _ _ w))
  | false ↦ media_in_form t w (media_type v i) c
]

-- ---- what a holding of the form shows

-- what comes of a place's value comes of what it shows
of_value : {A : Type 0} (g : Value → Option A) (o : Option Entry) (y : A) → option_and_then g (option_map (λ (e : Entry). e.1) o) ≡ Some y → (e : Entry) × (o ≡ Some e) × (g e.1 ≡ Some y)
of_value g None y h = absurd (cc)
of_value g (Some e) y h = (e, refl, h)

-- what is a number
number_of : (x : Value) (n : ℕ) → as_number x ≡ Some n → x ≡ Number n
number_of (Number m) n h = ap Number (some_same m n h)
number_of x n h = absurd (cc)

-- and what is filters
filters_of : (x : Value) (fs : List (List ℕ)) → as_filters x ≡ Some fs → x ≡ Filters fs
filters_of (Filters gs) fs h = ap Filters (some_same gs fs h)
filters_of x fs h = absurd (cc)

-- what a flow's rule is made of
record IsMadeOf (t : Tables) (v : View) (i : FlowId) (x : RuleValue) : Type 0 where
  pub shown : List (List ℕ)
  pub class : Class
  pub of_filters : filters v i ≡ Some shown
  pub of_class : class_of t v i ≡ Some class
  pub is : x ≡ flow_rule t v i shown class

-- so it is made
made_of : (t : Tables) (v : View) (i : FlowId) (x : RuleValue) → rule_of t v i ≡ Some x → IsMadeOf t v i x
made_of t v i x h = of_both (filters v i) (class_of t v i) refl refl h
  where
    of_both : (fs : Option (List (List ℕ))) (cl : Option Class) → filters v i ≡ fs → class_of t v i ≡ cl → option_and_then (λ f. option_map (λ c. flow_rule t v i f c) cl) fs ≡ Some x → IsMadeOf t v i x
    of_both None cl a b k = absurd (cc)
    of_both (Some f) None a b k = absurd (cc)
    of_both (Some f) (Some c) a b k = record { shown = f; class = c; of_filters = a; of_class = b; is = sym (some_same (flow_rule t v i f c) x k) }

-- a status that is shown, or ENABLED, is one
status_of : (x y : Option ℕ) → ((n : ℕ) → x ≡ Some n → is_status n ≡ true) → ((n : ℕ) → y ≡ Some n → is_status n ≡ true) → is_status (unwrap_or (or_else x y) 2) ≡ true
status_of (Some n) y a b = a n refl
status_of None (Some n) a b = b n refl
status_of None None a b = refl

module _ (t : Tables) (h : Holding) (tables : are_tables t ≡ true) (form : is_holding h ≡ true) where
  -- what is read of the holding
  abbrev v : View
  v = view h.facts

  -- where a place shows a fact stands
  pub shown_fact : (s : Session) (p : Place) (e : Entry) → v.shows s p ≡ Some e → In (s, Field p e.0 e.1) h.facts
  shown_fact s p e k = facts_on-In h.facts s (Field p e.0 e.1) (fact_there (facts_on h.facts s) p e (sym ((sessions_alone h.facts s).shows p) ∙ k))

  -- so what shows fits
  shown_fits : (s : Session) (p : Place) (e : Entry) → v.shows s p ≡ Some e → fits_place s.kind p e.1 ≡ true
  shown_fits s p e k = fact_fits h form (s, Field p e.0 e.1) (shown_fact s p e k)

  -- and so does what shows as a value of some kind
  value_fits : {A : Type 0} (g : Value → Option A) (as_value : A → Value) → ((x : Value) (y : A) → g x ≡ Some y → x ≡ as_value y)
      → (k : Kind) (s : Session) (p : Place) (y : A) → s.kind ≡ k → option_and_then g (value v s p) ≡ Some y → fits_place k p (as_value y) ≡ true
  value_fits g as_value back k s p y e q =
      let r = of_value g (v.shows s p) y q in
      let x = back r.0.1 y r.2 in
      let w = shown_fits s p r.0 r.1 in
      subst (λ (z : Kind). fits_place z p (as_value y) ≡ true) e (subst (λ (z : Value). fits_place s.kind p z ≡ true) x w)

  -- the rule of a flow is in form
  flow_rule_in_form : (x : RuleValue) → IsOfFlow t v x → (is_text rule_name_limit x.name ≡ true) × (is_rule x ≡ true)
  flow_rule_in_form x o =
      let i : FlowId = o.flow in
      let m = made_of t v i x o.gives in
      let e = of_value as_filters (v.shows i.session (OfFlow i.component i.flow FlowDescriptions)) m.shown m.of_filters in
      let known = first_so _ _ (first_so _ _ (held_fact h form (i.session, Field (OfFlow i.component i.flow FlowDescriptions) e.0.0 e.0.1) (shown_fact i.session (OfFlow i.component i.flow FlowDescriptions) e.0 e.1))) in
      let fs = second_so _ _ (value_fits as_filters Filters filters_of Af i.session (OfFlow i.component i.flow FlowDescriptions) m.shown o.kind m.of_filters) in
      let status = status_of (number_at (v.shows i.session) (OfFlow i.component i.flow FlowStatus)) (of_component v i ComponentStatus)
      (λ n q. second_so _ _ (value_fits as_number Number number_of Af i.session (OfFlow i.component i.flow FlowStatus) n o.kind q))
      (λ n q. second_so _ _ (value_fits as_number Number number_of Af i.session (OfComponent i.component ComponentStatus) n o.kind q)) in
      let c : Class = m.class in
      let good = rule_of_class (flow_rule_name i) (flow_status v i) m.shown c _ _ status fs (class_in_form t tables v i c m.of_class) (least (asked_rate t v i Uplink c.max_ul) c.max_ul) (least (asked_rate t v i Downlink c.max_dl) c.max_dl) in (
        subst (λ (r : RuleValue). is_text rule_name_limit r.name ≡ true) (sym m.is) (flow_name i known o.low_component o.low_flow),
        subst (λ (r : RuleValue). is_rule r ≡ true) (sym m.is) good,
      )
    where
      least : (a b : ℕ) → min a b ≤ b
      least a b = omega arith

  -- a rule in form, with its name
  abbrev GoodRule : RuleValue → Type 0
  GoodRule x = (is_text rule_name_limit x.name ≡ true) × (is_rule x ≡ true)

  -- so is each that the operator gives
  given_in_form : (s : Session) (x : RuleValue) → In x (operator_rules t v s) → GoodRule x
  given_in_form s x i = of_row (apn_of t v s) refl i
    where
      of_row : (row : Option ApnRow) → apn_of t v s ≡ row → In x (unwrap_or (option_map (λ (r : ApnRow). map operator_rule r.rules) row) []) → GoodRule x
      of_row None e j = absurd j
      of_row (Some r) e j =
          let w = row_of t (text v s apn) r e in
          let m = map-In operator_rule x r.rules j in
          let good = (table_row t tables w.0 r w.1).each m.0 m.1 in (
            subst (λ (z : RuleValue). is_text rule_name_limit z.name ≡ true) (sym m.2) (operator_name m.0.name (first_so _ _ (first_so _ _ (first_so _ _ good)))),
            subst (λ (z : RuleValue). is_rule z ≡ true) (sym m.2) (operator_rule_in_form m.0 good),
          )

  -- and each of the session, live or not
  pub rule_in_form : (s : Session) (x : RuleValue) → In x (rules t v s) → GoodRule x
  unfolding rules
  rule_in_form s x = elim (is_live v s) as (λ b. In x (cond b (ascending listed_cmp (operator_rules t v s ++ flow_rules t v s)) []) → GoodRule x) [
    | true ↦ λ i. elim (In-cases x (operator_rules t v s) (flow_rules t v s) ((ascending-In listed_cmp listed_ranked (operator_rules t v s ++ flow_rules t v s) x).0 i)) [
      | inl j ↦ given_in_form s x j
      | inr j ↦ flow_rule_in_form x (names.of_flow t h.facts s (names.flows_fit_low h.facts s (flows_fit h form)) x j)
    ]
    | false ↦ λ i. absurd i
  ]

  -- a name under which a rule may be told is one of the gateway's
  told_name : (k : Kind) (n : List ℕ) (x : Value) → fits_place k (OfRuleName n) x ≡ true → is_text rule_name_limit n ≡ true
  told_name Gx n x w = first_so _ _ w
  told_name Af n x w = clash false w refl

  -- so are the names of told entries
  pub told_in_form : (s : Session) (u : ToldRule) → In u (told_rules_of v s) → is_text rule_name_limit u.0 ≡ true
  told_in_form s u i =
      let r = told-shows h.facts s u i in
      told_name s.kind u.0 (Told u.1) (shown_fits s (OfRuleName u.0) (r.0, Told u.1) r.1)

  -- and what is told of a difference
  pub can_tell : (most : ℕ) (s : Session) → CanTell (delta_of most t v s)
  can_tell most s =
      let whole : DeltaValue = difference (told_rules_of v s) (rules t v s) in
      let installed = λ (r : RuleValue) (i : In r (delta_of most t v s).installed). rule_in_form s r (installed-In (told_rules_of v s) (rules t v s) r (take-In (most - length whole.removed) r whole.installed i)).0 in
      record {
        names = λ n i.
            let u = map-In told_name_of n (told_rules_of v s) (removed-In (told_rules_of v s) (rules t v s) n (take-In most n whole.removed i)).0 in
            subst (λ (z : List ℕ). is_text rule_name_limit z ≡ true) (sym u.2) (told_in_form s u.0 u.1);
        names_too = λ r i. (installed r i).0;
        rules = λ r i. (installed r i).1;
        apart = first_apart most t h.facts s (rules-names_differ t h.facts s tables (flows_fit h form));
      }
