-- Served requests and pushes add operations of the form.
use Rattle.std.proofs.lemmas.Bool.Decides.{nat_tests}
use Rattle.std.proofs.Common.{◌≡◌, ℕ, ◌+◌, ◌-◌, ◌<◌, ◌≤◌, Bool, true, false, cond, not, ◌&&◌, ◌==◌, is_some, List, [], ◌∷◌, ◌++◌, map, length, Option, Some, None, inl, inr, refl, sym, ap, ◌∙◌, subst, option_map, unwrap_or, length-append, length-take, flat_map, arith}
use Rattle.std.proofs.lemmas.List.{length-map}
use Rattle.std.specs.Cmp.{first_so, second_so}
use Rattle.std.specs.List.{list_all}
use Rattle.pcrf_values.specs.Ascending.{ascending}
use Rattle.pcrf_values.specs.Sets.{In}
use Rattle.pcrf_values.specs.declared.tag.Tag.{Tag}
use Rattle.pcrf_values.proofs.Plain.{clash, some_same, not_true}
use Rattle.pcrf_values.proofs.SetLaws.{Same-itself, Same-through, Same-append, map-Same}
use Rattle.pcrf_values.specs.Limits.{session_id_limit, last_counter, site_limit}
use Rattle.pcrf_values.specs.RuleValues.{DeltaValue}
use Rattle.pcrf_values.specs.Numbers.{request_kind_number}
use Rattle.pcrf_values.specs.Results.{unknown_session_id, unable_to_comply}
use Rattle.pcrf_values.specs.declared.refusal.Refusal.{Refusal}
use Rattle.pcrf_values.specs.declared.numbers.RequestKind.{RequestKind}
use Rattle.pcrf_values.specs.declared.numbers.RequestKind.TheVariants.{Initial, Update, Termination}
use Rattle.pcrf_values.specs.Places.{SessionField, RequestType}
use Rattle.pcrf_values.specs.Values.{Value, Number}
use Rattle.pcrf_values.specs.Facts.{Fact, Field, fact_cmp}
use Rattle.pcrf_values.proofs.JoinedLaws as facts
use Rattle.pcrf_model.specs.Sessions.{Kind, Gx, Af, Session, gx, af, is_gx}
use Rattle.pcrf_model.specs.Holdings.{SessionFact, under, Holding}
use Rattle.pcrf_model.specs.Operations.{Operation, with_operation}
use Rattle.pcrf_model.specs.Views.{View, view}
use Rattle.pcrf_model.specs.Live.{is_live}
use Rattle.pcrf_model.specs.Tables.{Tables}
use Rattle.pcrf_model.specs.Rules.{rules}
use Rattle.pcrf_model.specs.Differences.{told_rules_of, difference, is_empty}
use Rattle.pcrf_model.specs.Requests.{CcrValue, AarValue, StrValue, RequestValue, Ccr, Aar, Str, Base}
use Rattle.pcrf_model.specs.Making.{request_says, ccr_fields, told_facts, component_facts, aar_facts, next_tag, next_operation}
use Rattle.pcrf_model.specs.Refusals.{first_cause, is_clock_full, ccr_causes, ccr_refusal, aar_causes, aar_refusal, str_refusal}
use Rattle.pcrf_model.specs.Replies.{ReplyValue, OnGx, Rejected, Refused, Outcome}
use Rattle.pcrf_model.specs.Serving.{empty_delta, delta_of, provision_outcome, accepted_ccr, description_outcome, session_end_outcome, refusal_or, serve_ccr, serve_aar, serve_str, serve}
use Rattle.pcrf_model.specs.Pushing.{is_of_host, is_home, is_due, due_session, push_outcome, nothing_pushed, push, lacks_counter}
use Rattle.pcrf_model.specs.Forms.{is_text, is_unsigned, is_identity, is_origin, is_user, is_session, fits_session_field, are_apart, is_component, is_request_number, is_operation, is_holding, is_request, is_stamp, is_record, are_tables}
use Rattle.pcrf_model.proofs.HoldingLaws.{sorted-In}
use Rattle.pcrf_model.proofs.ViewLaws.{view-Same}
use Rattle.pcrf_model.proofs.BindLaws.{live_reached}
use Rattle.pcrf_model.proofs.DueLaws.{first_due}
use Rattle.pcrf_model.proofs.FormReading.{each_passes, held_fact}
use Rattle.pcrf_model.proofs.FormLaws.{form_by_test, with_operation_form}
use Rattle.pcrf_model.proofs.MadeForms.{CanAdd, MayMake, stamp_left, stamped_in_form, made_in_form, end_in_form, Each, ◌and◌, some_left, said_each, session_some, session_fits}
use Rattle.pcrf_model.proofs.GatewayForms.{CanTell, IsOfGateway, at_field, told_each, gateway_makes}
use Rattle.pcrf_model.proofs.FunctionForms.{at_session, components_each, component_number, numbers_differ, its_flows_differ, function_makes}
use Rattle.pcrf_model.proofs.RecordForms.{made_record}
use Rattle.pcrf_model.proofs.RuleForms.{shown_fact, can_tell}

-- ---- what is left of the clock

-- where there is no refusal no cause stands
no_cause : (xs : List (Bool × Refusal)) (x : Bool × Refusal) → In x xs → first_cause xs ≡ None → x.0 ≡ false
no_cause [] x i h = absurd i
no_cause (y ∷ ys) x i h = (elim (y.0) as (λ b. y.0 ≡ b → cond b (Some y.1) (first_cause ys) ≡ None → x.0 ≡ false) [
  | true ↦ λ _ k. absurd (cc)
  | false ↦ λ e k. elim i [ inl q ↦ ap (λ (z : Bool × Refusal). z.0) q ∙ e | inr j ↦ no_cause ys x j k ]
]) refl h

-- a clock that is not full leaves a counter
pub can_add : (i : ℕ) (h : Holding) → i < site_limit → is_holding h ≡ true → is_clock_full h ≡ false → CanAdd i h
can_add i h low w e = let k = (form_by_test h w).clock in record { site = low; left = below h.clock last_counter k e }
  where
    below : (m n : ℕ) → m ≤ n → (m == n) ≡ false → m < n
    below m n l d = grind (arith, nat_tests)

-- that none is left is the last cause of each refusal
abbrev no_counter : Holding → Bool × Refusal
no_counter h = (is_clock_full h, unable_to_comply)

-- a credit control request that is not refused has one
ccr_left : (t : Tables) (h : Holding) (q : CcrValue) → ccr_refusal t h q ≡ None → is_clock_full h ≡ false
unfolding ccr_refusal
ccr_left t h q = by_kind q.kind
  where
    by_kind : (k : RequestKind) → first_cause (ccr_causes t h (view h.facts) q k) ≡ None → is_clock_full h ≡ false
    by_kind Initial e = no_cause (ccr_causes t h (view h.facts) q Initial) (no_counter h) (inr (inr (inr (inl refl)))) e
    by_kind Update e = no_cause (ccr_causes t h (view h.facts) q Update) (no_counter h) (inr (inr (inl refl))) e
    by_kind Termination e = no_cause (ccr_causes t h (view h.facts) q Termination) (no_counter h) (inr (inl refl)) e

-- so has an AA request
aar_left : (t : Tables) (i : ℕ) (h : Holding) (q : AarValue) → aar_refusal t i h q ≡ None → is_clock_full h ≡ false
unfolding aar_refusal
aar_left t i h q e = no_cause (aar_causes t i h (view h.facts) q) (no_counter h) (inr (inr (inr (inr (inl refl))))) e

-- and a session termination request
str_left : (h : Holding) (q : StrValue) → str_refusal h q ≡ None → is_clock_full h ≡ false
unfolding str_refusal
str_left h q e = no_cause ((not (is_live (view h.facts) (af q.session)), unknown_session_id) ∷ no_counter h ∷ []) (no_counter h) (inr (inl refl)) e

-- ---- requests of the form, by parts

-- what each carries
pub origin_parts : (id of_host of_realm : List ℕ) → is_origin id of_host of_realm ≡ true → (is_text session_id_limit id ≡ true) × (is_identity of_host ≡ true) × (is_identity of_realm ≡ true)
origin_parts id of_host of_realm w = let two = first_so _ _ w in (first_so _ _ two, second_so _ _ two, second_so _ _ w)

-- a credit control request
pub ccr_parts : (q : CcrValue) → is_request (Ccr q) ≡ true → (is_origin q.session q.host q.realm ≡ true) × (is_user Gx q.user ≡ true) × (is_unsigned q.number ≡ true)
ccr_parts q w =
    let all : (is_origin q.session q.host q.realm && is_user Gx q.user && is_unsigned q.number) ≡ true = w in
    let two = first_so _ _ all in
    (first_so _ _ two, second_so _ _ two, second_so _ _ all)

-- an AA request
pub aar_parts : (q : AarValue) → is_request (Aar q) ≡ true
    → (is_origin q.session q.host q.realm ≡ true) × (is_user Af q.user ≡ true) × (list_all is_component q.components ≡ true) × (are_apart (map component_number q.components) ≡ true)
aar_parts q w =
    let all : (is_origin q.session q.host q.realm && is_user Af q.user && list_all is_component q.components && are_apart (map component_number q.components)) ≡ true = w in
    let three = first_so _ _ all in
    let two = first_so _ _ three in
    (first_so _ _ two, second_so _ _ two, second_so _ _ three, second_so _ _ all)

-- ---- outcomes

-- what may be added is of the form
abbrev Good : Option Operation → Type 0
Good x = (o : Operation) → x ≡ Some o → is_operation o ≡ true

-- this operation, if it is
adds_this : (p : Operation) → is_operation p ≡ true → Good (Some p)
adds_this p w o e = subst (λ (z : Operation). is_operation z ≡ true) (some_same p o e) w

-- whether refused or not
good_or : (as_reply : Refusal → ReplyValue) (x : Option Refusal) (a : Outcome) → (x ≡ None → Good a.added) → Good (refusal_or as_reply x a).added
good_or as_reply None a w = w refl
good_or as_reply (Some r) a w = λ o e. absurd (cc)

-- ---- credit control requests, under any stamp

module _ (counter i : ℕ) (stamp : is_stamp counter i ≡ true) (q : CcrValue) (w : is_request (Ccr q) ≡ true) (last : fits_session_field Gx RequestType (Number (request_kind_number q.kind)) ≡ true) where
  -- the fields
  abbrev fields : List Fact
  fields = ccr_fields q (record { number = q.number; counter = counter; site = i })

  -- what they say
  abbrev says : SessionField → Option Value
  says = request_says q.user q.host q.realm (request_kind_number q.kind)

  -- the request by parts
  parts : (is_origin q.session q.host q.realm ≡ true) × (is_user Gx q.user ≡ true) × (is_unsigned q.number ≡ true)
  parts = ccr_parts q w

  -- the session and its client
  known : (is_text session_id_limit q.session ≡ true) × (is_identity q.host ≡ true) × (is_identity q.realm ≡ true)
  known = origin_parts q.session q.host q.realm parts.0

  -- nothing may be told
  nothing : CanTell empty_delta
  nothing = record { names = λ n j. absurd j; names_too = λ r j. absurd j; rules = λ r j. absurd j; apart = record { one_each = λ a b j. absurd j; not_both = λ n j. absurd j } }

  -- each field is so
  fields_each : (d : DeltaValue) → Each (IsOfGateway q.number counter i says d) fields
  fields_each d = said_each says (record { number = q.number; counter = counter; site = i }) at_field

  -- and fits
  fields_fit : (f : SessionField) (v : Value) → says f ≡ Some v → fits_session_field Gx f v ≡ true
  fields_fit = session_fits q.user q.host q.realm (request_kind_number q.kind) Gx parts.1 known.1 known.2 last

  -- some field is there
  some_field : (f : Fact) × In f fields
  some_field = session_some q.user q.host q.realm (request_kind_number q.kind) (record { number = q.number; counter = counter; site = i })

  -- facts of the request make an operation of the form
  ccr_makes : (d : DeltaValue) (made : List Fact) → CanTell d → Each (IsOfGateway q.number counter i says d) made → ((f : Fact) × In f made)
      → is_operation (record { counter = counter; site = i; number = q.number; session = gx q.session; facts = ascending fact_cmp made }) ≡ true
  ccr_makes d made tell each some = stamped_in_form counter i q.number (gx q.session) made stamp parts.2 known.0 (gateway_makes q.number counter i says d tell fields_fit made each some)

  -- so do the fields alone
  pub fields_in_form : is_operation (record { counter = counter; site = i; number = q.number; session = gx q.session; facts = ascending fact_cmp fields }) ≡ true
  fields_in_form = ccr_makes empty_delta fields nothing (fields_each empty_delta) some_field

  -- and the fields with what the gateway is told
  pub provision_in_form : (d : DeltaValue) → CanTell d
      → is_operation (record { counter = counter; site = i; number = q.number; session = gx q.session; facts = ascending fact_cmp (fields ++ told_facts (record { number = 0; counter = counter; site = i }) d) }) ≡ true
  provision_in_form d tell =
      let u : Tag = record { number = 0; counter = counter; site = i } in
      ccr_makes d (fields ++ told_facts u d) tell (fields_each d and told_each q.number counter i says d) (some_left fields (told_facts u d) some_field)

-- ---- what a gateway is told, under any stamp

-- a list that is not empty has a member
some_member : (fs : List Fact) → 1 ≤ length fs → (f : Fact) × In f fs
some_member [] l = absurd (omega (arith, l))
some_member (f ∷ fs) l = (f, inl refl)

-- entries that may be told make an operation of the form
pub telling_in_form : (counter i : ℕ) (s : Session) → is_stamp counter i ≡ true → s.kind ≡ Gx → is_session s ≡ true → (d : DeltaValue) → CanTell d
    → 1 ≤ length (told_facts (record { number = 0; counter = counter; site = i }) d)
    → is_operation (record { counter = counter; site = i; number = 0; session = s; facts = ascending fact_cmp (told_facts (record { number = 0; counter = counter; site = i }) d) }) ≡ true
telling_in_form counter i s stamp of_gateway session d tell some =
    let u : Tag = record { number = 0; counter = counter; site = i } in
    let k = sym of_gateway in
    let says : SessionField → Option Value = λ f. None in
    let makes = gateway_makes 0 counter i says d tell (λ f v e. absurd (cc)) (told_facts u d) (told_each 0 counter i says d) (some_member (told_facts u d) some) in
    stamped_in_form counter i 0 s (told_facts u d) stamp (subst (λ (z : Kind). is_request_number z 0 ≡ true) k refl) session
    (subst (λ (z : Kind). MayMake z counter i 0 (told_facts u d)) k makes)

-- as many facts tell as there are entries
pub told_length : (u : Tag) (d : DeltaValue) → length (told_facts u d) ≡ length d.removed + length d.installed
told_length u d = simp (length-append, length-map)

-- what is not 0 is at least 1
pub not_none : (n : ℕ) → not (n == 0) ≡ true → 1 ≤ n
not_none n k = let e = not_true _ k in grind (arith, nat_tests, e)

-- something is told of what is due, where a message carries an entry
pub told_some : (most : ℕ) (t : Tables) (i : ℕ) (v : View) (name : Option (List ℕ)) (s : Session) (u : Tag) → 1 ≤ most → is_due t i v name s ≡ true → 1 ≤ length (told_facts u (delta_of most t v s))
told_some most t i v name s u one w =
    let d : DeltaValue = difference (told_rules_of v s) (rules t v s) in
    let open_ = second_so (is_gx s.kind && is_live v s && is_home i v s && is_of_host v name s) (not (is_empty d)) w in
    let lacks = not_none (length d.removed + length d.installed) open_ in
    let count = told_length u (delta_of most t v s) in
    let names = length-take most d.removed in
    let installed = length-take (most - length d.removed) d.installed in
    omega (arith, one, lacks, count, names, installed)

-- ---- AA requests, under any counter

-- what one describes may be one operation's
pub call_makes : (counter i : ℕ) (q : AarValue) → is_request (Aar q) ≡ true → MayMake Af counter i 0 (aar_facts q (record { number = 0; counter = counter; site = i }))
call_makes counter i q w =
    let parts = aar_parts q w in
    let origin = origin_parts q.session q.host q.realm parts.0 in
    let says : SessionField → Option Value = request_says q.user q.host q.realm 0 in
    let u : Tag = record { number = 0; counter = counter; site = i } in
    function_makes counter i says q.components (numbers_differ (map component_number q.components) parts.3)
    (λ c j. its_flows_differ c (each_passes is_component q.components parts.2 c j))
    (each_passes is_component q.components parts.2)
    (session_fits q.user q.host q.realm 0 Af parts.1 origin.1 origin.2 refl)
    (aar_facts q u)
    (said_each says u at_session and components_each counter i says q.components)
    (some_left _ (flat_map (component_facts u) q.components) (session_some q.user q.host q.realm 0 u))

-- and is a record
pub call_in_form : (counter i : ℕ) (q : AarValue) → 1 ≤ counter → i < site_limit → is_request (Aar q) ≡ true → is_record Af (aar_facts q (record { number = 0; counter = counter; site = i })) ≡ true
call_in_form counter i q first site w = made_record Af counter i 0 (aar_facts q (record { number = 0; counter = counter; site = i })) first site refl (call_makes counter i q w)

module _ (most : ℕ) (t : Tables) (i : ℕ) (h : Holding) (tables : are_tables t ≡ true) (form : is_holding h ≡ true) where
  -- ---- Gx

  module _ (can : CanAdd i h) (q : CcrValue) (w : is_request (Ccr q) ≡ true) (last : fits_session_field Gx RequestType (Number (request_kind_number q.kind)) ≡ true) where
    -- its session
    abbrev s : Session
    s = gx q.session

    -- the fields
    abbrev set : List Fact
    set = ccr_fields q (next_tag i h q.number)

    -- the holding with the fields has the form
    abbrev with_fields : Holding
    with_fields = with_operation h (next_operation i h q.number s set)

    fields_form : is_holding with_fields ≡ true
    fields_form = with_operation_form h (next_operation i h q.number s set) form (fields_in_form (h.clock + 1) i (stamp_left i h can) q w last)

    -- and the view that the answer speaks of
    fields_view : view with_fields.facts ≡ view (h.facts ++ under s set)
    fields_view =
        let sorted : List SessionFact = under s (ascending fact_cmp set) in
        view-Same with_fields.facts (h.facts ++ under s set)
        (Same-through with_fields.facts (h.facts ++ sorted) (h.facts ++ under s set) (sorted-In (h.facts ++ sorted))
        (Same-append h.facts sorted h.facts (under s set) (Same-itself h.facts) (map-Same (λ (f : Fact). (s, f)) (ascending fact_cmp set) set (facts.sorted-In set))))

    -- an initial request or an update adds an operation of the form
    provisioned_good : Good (provision_outcome most t i h q).added
    unfolding provision_outcome
    provisioned_good =
        let v : View = view (h.facts ++ under s set) in
        let d : DeltaValue = delta_of most t v s in
        let tell = subst (λ (x : View). CanTell (delta_of most t x s)) fields_view (can_tell t with_fields tables fields_form most s) in
        adds_this _ (provision_in_form (h.clock + 1) i (stamp_left i h can) q w last d tell)

  -- any credit control request
  pub ccr_good : i < site_limit → (q : CcrValue) → is_request (Ccr q) ≡ true → Good (serve_ccr most t i h q).added
  unfolding serve_ccr
  ccr_good site q w =
      good_or (λ r. OnGx (Rejected r)) (ccr_refusal t h q) (accepted_ccr most t i h q q.kind)
      (λ e. by_kind (can_add i h site form (ccr_left t h q e)) q.kind refl)
    where
      of_type : (k : RequestKind) → fits_session_field Gx RequestType (Number (request_kind_number k)) ≡ true → q.kind ≡ k → fits_session_field Gx RequestType (Number (request_kind_number q.kind)) ≡ true
      of_type k fit e = subst (λ (z : RequestKind). fits_session_field Gx RequestType (Number (request_kind_number z)) ≡ true) (sym e) fit

      parts : (is_origin q.session q.host q.realm ≡ true) × (is_user Gx q.user ≡ true) × (is_unsigned q.number ≡ true)
      parts = ccr_parts q w

      by_kind : CanAdd i h → (k : RequestKind) → q.kind ≡ k → Good (accepted_ccr most t i h q k).added
      by_kind can Initial e = provisioned_good can q w (of_type Initial refl e)
      by_kind can Update e = provisioned_good can q w (of_type Update refl e)
      by_kind can Termination e = adds_this _ (end_in_form (h.clock + 1) i q.number (gx q.session) (stamp_left i h can) parts.2 (origin_parts q.session q.host q.realm parts.0).0)

  -- ---- Rx

  -- any AA request
  pub aar_good : i < site_limit → (q : AarValue) → is_request (Aar q) ≡ true → Good (serve_aar t i h q).added
  unfolding serve_aar
  aar_good site q w = good_or Refused (aar_refusal t i h q) (description_outcome i h q) (λ e. adds_this _ (makes (can_add i h site form (aar_left t i h q e))))
    where
      makes : CanAdd i h → is_operation (next_operation i h 0 (af q.session) (aar_facts q (next_tag i h 0))) ≡ true
      makes can = made_in_form i h 0 (af q.session) (aar_facts q (next_tag i h 0)) can refl (origin_parts q.session q.host q.realm (aar_parts q w).0).0 (call_makes (h.clock + 1) i q w)

  -- any session termination request
  pub str_good : i < site_limit → (q : StrValue) → is_request (Str q) ≡ true → Good (serve_str i h q).added
  unfolding serve_str
  str_good site q w = good_or Refused (str_refusal h q) (session_end_outcome i h q)
      (λ e. adds_this _ (end_in_form (h.clock + 1) i 0 (af q.session) (stamp_left i h (can_add i h site form (str_left h q e))) refl (origin_parts q.session q.host q.realm w).0))

  -- any request
  serve_good : i < site_limit → (q : RequestValue) → is_request q ≡ true → Good (serve most t i h q).added
  serve_good site (Ccr q) w = ccr_good site q w
  serve_good site (Aar q) w = aar_good site q w
  serve_good site (Str q) w = str_good site q w
  serve_good site (Base q) w = λ o e. absurd (cc)

  -- ---- pushes

  -- a session that is due is the gateway's
  due_gateway : (name : Option (List ℕ)) (s : Session) → is_due t i (view h.facts) name s ≡ true → s.kind ≡ Gx
  due_gateway name s w = of_kind s.kind (first_so _ _ (first_so _ _ (first_so _ _ (first_so _ _ w))))
    where
      of_kind : (k : Kind) → is_gx k ≡ true → k ≡ Gx
      of_kind Gx e = refl
      of_kind Af e = clash false e refl

  -- and in form
  due_in_form : (name : Option (List ℕ)) (s : Session) → is_due t i (view h.facts) name s ≡ true → is_session s ≡ true
  due_in_form name s w =
      let both = first_so _ _ (first_so _ _ (first_so _ _ w)) in
      let r = live_reached (view h.facts) s (second_so (is_gx s.kind) _ both) in
      first_so _ _ (first_so _ _ (held_fact h form (s, Field r.0 r.2.0 r.2.1) (shown_fact t h tables form s r.0 r.2 r.3)))

  -- what is told of a session that is due makes an operation of the form
  telling_good : (name : Option (List ℕ)) (s : Session) → 1 ≤ most → CanAdd i h → is_due t i (view h.facts) name s ≡ true → Good (push_outcome most t i h (view h.facts) s).added
  telling_good name s one can w =
      let d : DeltaValue = delta_of most t (view h.facts) s in
      adds_this _ (telling_in_form (h.clock + 1) i s (stamp_left i h can) (due_gateway name s w) (due_in_form name s w) d (can_tell t h tables form most s)
      (told_some most t i (view h.facts) name s (next_tag i h 0) one w))

  -- whatever is pushed
  push_good : 1 ≤ most → i < site_limit → (name : Option (List ℕ)) → lacks_counter t i h name ≡ false → Good (push most t i h name).added
  unfolding push lacks_counter
  push_good one site name w = of_due (due_session t i (view h.facts) name) refl w
    where
      of_due : (x : Option Session) → due_session t i (view h.facts) name ≡ x → (is_some x && is_clock_full h) ≡ false → Good (unwrap_or (option_map (push_outcome most t i h (view h.facts)) x) nothing_pushed).added
      of_due None e k = λ o q. absurd (cc)
      of_due (Some s) e k = telling_good name s one (can_add i h site form k) (first_due t i h.facts name s e).is_one

-- serving adds an operation of the form
pub serving_in_form : (most : ℕ) (t : Tables) (i : ℕ) (h : Holding) (q : RequestValue) (o : Operation) → are_tables t ≡ true → i < site_limit → is_holding h ≡ true → is_request q ≡ true → (serve most t i h q).added ≡ Some o → is_operation o ≡ true
serving_in_form most t i h q o tables site form w = serve_good most t i h tables form site q w o

-- and pushing
pub pushing_in_form : (most : ℕ) (t : Tables) (i : ℕ) (h : Holding) (name : Option (List ℕ)) (o : Operation) → 1 ≤ most → are_tables t ≡ true → i < site_limit → is_holding h ≡ true → lacks_counter t i h name ≡ false → (push most t i h name).added ≡ Some o → is_operation o ≡ true
pushing_in_form most t i h name o one tables site form w = push_good most t i h tables form one site name w o
