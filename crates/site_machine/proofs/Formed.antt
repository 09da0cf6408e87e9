-- The operations that a site makes are of the form, and so is what it puts back.
use Rattle.std.proofs.lemmas.Bool.Decides.{nat_tests}
use Rattle.std.proofs.Common.{◌≡◌, ℕ, ◌<◌, ◌≤◌, true, false, List, [], ◌∷◌, ◌++◌, map, refl, sym, ap, ◌∙◌, subst, nat_lt, length, arith}
use Rattle.std.specs.List.{list_all}
use Rattle.pcrf_values.specs.Ascending.{ascending}
use Rattle.pcrf_values.specs.Sets.{Distinct}
use Rattle.pcrf_values.specs.declared.tag.Tag.{Tag}
use Rattle.pcrf_values.proofs.Plain.{both, clash}
use Rattle.pcrf_values.specs.Limits.{session_id_limit, rule_name_limit, last_counter, site_limit, delta_limit}
use Rattle.pcrf_values.specs.Numbers.{request_kind_number}
use Rattle.pcrf_values.specs.RuleValues.{RuleValue, DeltaValue}
use Rattle.pcrf_values.specs.declared.numbers.RequestKind.{RequestKind}
use Rattle.pcrf_values.specs.declared.numbers.RequestKind.TheVariants.{Initial, Update, Termination}
use Rattle.pcrf_values.specs.Facts.{Fact, End, Aborted, fact_cmp}
use Rattle.pcrf_values.specs.Places.{RequestType}
use Rattle.pcrf_values.specs.Values.{Number}
use Rattle.pcrf_model.specs.Sessions.{Gx, gx, af}
use Rattle.pcrf_model.specs.Holdings.{SessionFact, Holding, facts_on, kept_of, with_facts_of}
use Rattle.pcrf_model.specs.Operations.{Operation, with_operation}
use Rattle.pcrf_model.specs.Views.{view}
use Rattle.pcrf_model.specs.Tables.{Tables}
use Rattle.pcrf_model.specs.Rules.{rules}
use Rattle.pcrf_model.specs.Differences.{rule_name_of}
use Rattle.pcrf_model.specs.Requests.{CcrValue, AarValue, StrValue, Ccr, Aar, Str}
use Rattle.pcrf_model.specs.Making.{request_says, ccr_fields, told_facts}
use Rattle.pcrf_model.specs.Serving.{delta_of}
use Rattle.pcrf_model.specs.Forms.{is_stamp, is_text, is_rule, is_operation, is_holding, is_request, are_up_to, fits_session_field}
use Rattle.pcrf_model.proofs.FormLaws.{le_passes}
use Rattle.pcrf_model.proofs.FormReading.{each_passes}
use Rattle.pcrf_model.proofs.GatewayForms.{CanTell}
use Rattle.pcrf_model.proofs.MadeForms.{end_in_form, alone_in_form, stamped_in_form}
use Rattle.pcrf_model.proofs.ProvisionLaws.{first_apart}
use Rattle.pcrf_model.proofs.RecordForms.{holding_up_to}
use Rattle.pcrf_model.proofs.ServedForms.{ccr_parts, aar_parts, origin_parts, call_makes, fields_in_form, provision_in_form, telling_in_form}
use Rattle.pcrf_model.proofs.ToldFacts.{IsApart}
use Rattle.site_machine.specs.Call.{call_facts}
use Rattle.site_machine.specs.Gateway.{made_facts}
use Rattle.site_machine.specs.Facts.{opens, operation_made, operation_told, operation_pushed, operation_on_call}
use Rattle.site_machine.proofs.Replies.{fields_made}
use Rattle.site_machine.proofs.Restoring.{restored}
use Rattle.site_machine.proofs.ToldOrder.{fields_in_order, fields_then_told}

-- ---- stamps

-- a counter and a site that there may be
pub stamped : (counter i : ℕ) → 1 ≤ counter → counter ≤ last_counter → i < site_limit → is_stamp counter i ≡ true
stamped counter i first within site =
    let low : nat_lt i site_limit ≡ true = grind (arith, nat_tests) in
    both _ _ (both _ _ (le_passes 1 counter first) (le_passes counter last_counter within)) low

-- ---- credit control requests

-- the type of a request that leaves its session open is one that a session shows
last_fits : (k : RequestKind) → opens k ≡ true → fits_session_field Gx RequestType (Number (request_kind_number k)) ≡ true
last_fits Initial h = refl
last_fits Update h = refl
last_fits Termination h = clash false h refl

-- the fields of a request, or the end that it makes
pub made_formed : (counter i : ℕ) (q : CcrValue) → is_stamp counter i ≡ true → is_request (Ccr q) ≡ true → is_operation (operation_made i counter q q.kind) ≡ true
made_formed counter i q stamp w = by_kind q.kind refl
  where
    sorted : fits_session_field Gx RequestType (Number (request_kind_number q.kind)) ≡ true → is_operation (record { counter = counter; site = i; number = q.number; session = gx q.session; facts = ccr_fields q (record { number = q.number; counter = counter; site = i }) }) ≡ true
    sorted last =
        subst (λ (fs : List Fact). is_operation (record { counter = counter; site = i; number = q.number; session = gx q.session; facts = fs }) ≡ true)
        (fields_in_order (record { number = q.number; counter = counter; site = i }) (request_says q.user q.host q.realm (request_kind_number q.kind)))
        (fields_in_form counter i stamp q w last)

    by_kind : (k : RequestKind) → q.kind ≡ k → is_operation (operation_made i counter q k) ≡ true
    by_kind Initial e = sorted (subst (λ (k : RequestKind). fits_session_field Gx RequestType (Number (request_kind_number k)) ≡ true) (sym e) refl)
    by_kind Update e = sorted (subst (λ (k : RequestKind). fits_session_field Gx RequestType (Number (request_kind_number k)) ≡ true) (sym e) refl)
    by_kind Termination e = let parts = ccr_parts q w in end_in_form counter i q.number (gx q.session) stamp parts.2 (origin_parts q.session q.host q.realm parts.0).0

-- ---- what a gateway is told

-- the first entries of a difference, whose names and rules are within their ranges
pub entries_tell : (t : Tables) (facts : List SessionFact) (session : List ℕ) (d : DeltaValue) → d ≡ delta_of delta_limit t (view facts) (gx session)
    → Distinct (map rule_name_of (rules t (view facts) (gx session)))
    → list_all (is_text rule_name_limit) d.removed ≡ true → list_all (λ (r : RuleValue). is_text rule_name_limit r.name) d.installed ≡ true → list_all is_rule d.installed ≡ true → CanTell d
entries_tell t facts session d is apart names rule_names parts = record {
  names = each_passes (is_text rule_name_limit) d.removed names;
  names_too = each_passes (λ (r : RuleValue). is_text rule_name_limit r.name) d.installed rule_names;
  rules = each_passes is_rule d.installed parts;
  apart = subst IsApart (sym is) (first_apart delta_limit t facts (gx session) apart);
}

-- the fields of a request with what its gateway is told
pub told_formed : (counter i : ℕ) (q : CcrValue) (d : DeltaValue) → is_stamp counter i ≡ true → is_request (Ccr q) ≡ true → opens q.kind ≡ true → CanTell d → is_operation (operation_told i counter q q.kind d) ≡ true
told_formed counter i q d stamp w opening tell =
    let t : Tag = record { number = q.number; counter = counter; site = i } in
    let u : Tag = record { number = 0; counter = counter; site = i } in
    let is : ascending fact_cmp (ccr_fields q t ++ told_facts u d) ≡ made_facts q q.kind t ++ ascending fact_cmp (told_facts u d) =
    fields_then_told q t u d ∙ ap (λ (fs : List Fact). fs ++ ascending fact_cmp (told_facts u d)) (sym (fields_made q q.kind t opening)) in
    subst (λ (fs : List Fact). is_operation (record { counter = counter; site = i; number = q.number; session = gx q.session; facts = fs }) ≡ true) is
    (provision_in_form counter i stamp q w (last_fits q.kind opening) d tell)

-- what a push tells
pub pushed_formed : (counter i : ℕ) (session : List ℕ) (d : DeltaValue) → is_stamp counter i ≡ true → is_text session_id_limit session ≡ true → CanTell d
    → 1 ≤ length (told_facts (record { number = 0; counter = counter; site = i }) d) → is_operation (operation_pushed i counter session d) ≡ true
pushed_formed counter i session d stamp text tell some = telling_in_form counter i (gx session) stamp refl text d tell some

-- ---- application functions

-- what an AA request describes
pub call_formed : (counter i : ℕ) (q : AarValue) → is_stamp counter i ≡ true → is_request (Aar q) ≡ true → is_operation (operation_on_call i counter q.session (ascending fact_cmp (call_facts i counter q))) ≡ true
call_formed counter i q stamp w =
    stamped_in_form counter i 0 (af q.session) (call_facts i counter q) stamp refl (origin_parts q.session q.host q.realm (aar_parts q w).0).0 (call_makes counter i q w)

-- the end of a session
pub hung_up_formed : (counter i : ℕ) (q : StrValue) → is_stamp counter i ≡ true → is_request (Str q) ≡ true → is_operation (operation_on_call i counter q.session (End ∷ [])) ≡ true
hung_up_formed counter i q stamp w = end_in_form counter i 0 (af q.session) stamp refl (origin_parts q.session q.host q.realm w).0

-- the abort of a session
pub aborted_formed : (counter i : ℕ) (session : List ℕ) → is_stamp counter i ≡ true → is_text session_id_limit session ≡ true
    → is_operation (operation_on_call i counter session (Aborted ∷ [])) ≡ true
aborted_formed counter i session stamp text = alone_in_form counter i 0 (af session) Aborted stamp refl text refl

-- ---- what is put back

-- where the facts that a session had are put back, no tag is above the clock that was
pub put_back_up_to : (h : Holding) (o : Operation) → kept_of h ≡ h → is_holding h ≡ true
    → are_up_to h.clock (with_facts_of (kept_of (with_operation h o)) o.session (facts_on h.facts o.session) h.clock).facts ≡ true
put_back_up_to h o kept form = subst (λ (k : Holding). are_up_to h.clock k.facts ≡ true) (sym (restored h o kept)) (holding_up_to h form)
