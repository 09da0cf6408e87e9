use Rattle.std.proofs.Common.{◌≡◌, true, List, ◌++◌, map, Some, ap, sym, ◌∙◌, subst, arith}
use Rattle.pcrf_values.specs.RuleValues.{DeltaValue}
use Rattle.pcrf_values.specs.Facts.{Fact}
use Rattle.pcrf_values.specs.Held.{kept_list, join_of}
use Rattle.pcrf_values.specs.Limits.{delta_limit}
use Rattle.pcrf_model.specs.Forms.{is_operation, is_record}
use Rattle.pcrf_model.specs.Holdings.{facts_on, kept_of}
use Rattle.pcrf_model.specs.Operations.{Operation, with_operation}
use Rattle.pcrf_model.specs.Sessions.{Gx, gx}
use Rattle.pcrf_model.specs.Views.{view}
use Rattle.pcrf_model.specs.Differences.{first}
use Rattle.pcrf_model.specs.Serving.{delta_of}
use Rattle.pcrf_model.proofs.ServedForms.{ccr_parts, origin_parts}
use Rattle.gx_records.specs.declared.fact.GxFact.{GxFact}
use Rattle.gx_records.specs.GxFacts.{fact_of}
use Rattle.gx_profile.specs.Requests.{ccr_view}
use Rattle.indexed_state.specs.Indexed.{IsTold}
use Rattle.site_machine.specs.Facts.{fields_of, operation_made, operation_told, operation_with}
use Rattle.site_machine.specs.Sites.{SiteValue, with_made}
use Rattle.site_machine.proofs.Formed.{stamped, entries_tell, told_formed}
use Rattle.site_machine.proofs.Telling.{told_joins, told_nothing, told_record, told_each, some_weaker}
use Rattle.site_machine.proofs.site.Site.tell.Goals as goal

pub with_told-requires : goal.with_told-requires
with_told-requires g c = λ some.
    let s = c.untold_difference.new.self in
    let q = ccr_view c.args.ccr.now in
    let d = c.of-delta.result in
    let later = c.requires.later in
    let is : d ≡ delta_of delta_limit s.tables (view s.state.holding.facts) (gx q.session) = c.of-delta.ensures ∙ ap (first delta_limit) c.in_ok-missing.ensures.difference in
    let text = (origin_parts q.session q.host q.realm (ccr_parts q c.note_ccr.ensures).0).0 in
    let told = ap (map fact_of) c.as_slice.ensures.value ∙ c.in_ok-told.ensures in
    subst (λ (fs : List Fact). is_record Gx fs ≡ true) (sym told)
    (told_record c.args.counter s.number q.session d (stamped c.args.counter s.number (omega (arith, later)) c.requires.within c.note_number.ensures) text
    (entries_tell s.tables s.state.holding.facts q.session d is c.in_ok-missing.ensures.names c.note_entries.ensures.names c.note_entries.ensures.rule_names c.note_entries.ensures.rules)
    (λ none. some (told ∙ none)))

pub all_made-requires : goal.all_made-requires
all_made-requires g c =
    let s = c.untold_difference.new.self in
    let q = ccr_view c.args.ccr.now in
    let d = c.of-delta.result in
    let later = c.requires.later in
    let is : d ≡ delta_of delta_limit s.tables (view s.state.holding.facts) (gx q.session) = c.of-delta.ensures ∙ ap (first delta_limit) c.in_ok-missing.ensures.difference in
    let fields = c.requires.fields ∙ ap (λ (x : SiteValue). fields_of x.number c.args.counter q q.kind) (sym c.in_ok-missing.ensures.same) in
    let told = c.in_ok-told.ensures in
    (λ i. is_operation (operation_with s.number c.args.counter q (fields i ++ told i)))
    ∙ told_formed c.args.counter s.number q d (stamped c.args.counter s.number (omega (arith, later)) c.requires.within c.note_number.ensures) c.note_ccr.ensures c.requires.opens
    (entries_tell s.tables s.state.holding.facts q.session d is c.in_ok-missing.ensures.names c.note_entries.ensures.names c.note_entries.ensures.rule_names c.note_entries.ensures.rules)

pub add_told-requires-clause-nothing : goal.add_told-requires-clause-nothing
add_told-requires-clause-nothing g c = λ none.
    let s = c.untold_difference.new.self in
    let h = s.state.holding in
    let q = ccr_view c.args.ccr.now in
    let facts = map fact_of c.args.facts.items in
    let told = map fact_of c.in_ok-told.told.items in
    let fields = c.requires.fields ∙ ap (λ (x : SiteValue). fields_of x.number c.args.counter q q.kind) (sym c.in_ok-missing.ensures.same) in
    let set = subst (λ (x : SiteValue). kept_of (with_operation x.state.holding (operation_made x.number c.args.counter q q.kind)) ≡ x.state.holding) (sym c.in_ok-missing.ensures.same) c.requires.set in
    ap (λ (o : Operation). kept_of (with_operation h o)) c.in_ok-operation.ensures
    ∙ told_nothing h s.number c.args.counter q facts told (sym (ap (map fact_of) c.as_slice.ensures.value) ∙ c.in_ok-known.ensures.nothing none)
    (ap (λ (fs : List Fact). kept_of (with_operation h (operation_with s.number c.args.counter q fs))) fields ∙ set)

pub add_told-requires-clause-joins : goal.add_told-requires-clause-joins
add_told-requires-clause-joins g c =
    let s = c.untold_difference.new.self in
    let h = s.state.holding in
    let q = ccr_view c.args.ccr.now in
    let told = map fact_of c.in_ok-told.told.items in
    let own = facts_on h.facts (gx q.session) in
    let fields = c.requires.fields ∙ ap (λ (x : SiteValue). fields_of x.number c.args.counter q q.kind) (sym c.in_ok-missing.ensures.same) in
    let set = subst (λ (x : SiteValue). kept_of (with_operation x.state.holding (operation_made x.number c.args.counter q q.kind)) ≡ x.state.holding) (sym c.in_ok-missing.ensures.same) c.requires.set in
    let more = told_joins h (operation_made s.number c.args.counter q q.kind) c.note_kept.ensures set told in
    let all = ap (λ (fs : List Fact). join_of own (kept_list (fs ++ told))) (sym fields) ∙ ap (λ (o : Operation). join_of own (kept_list o.facts)) (sym c.in_ok-operation.ensures) in
    let same = ap (λ (fs : List GxFact). join_of own (kept_list (map fact_of fs))) c.as_slice.ensures.value in
    some_weaker c.in_ok-known.known (λ k. k ≡ join_of own (kept_list (map fact_of c.as_slice.result.now))) (λ k. k ≡ join_of own (kept_list c.in_ok-operation.operation.facts))
    (λ k is. is ∙ same ∙ more ∙ all) c.in_ok-known.ensures.joins

pub add_told-requires-clause-told : goal.add_told-requires-clause-told
add_told-requires-clause-told g c =
    let s = c.untold_difference.new.self in
    let h = s.state.holding in
    let q = ccr_view c.args.ccr.now in
    let told = map fact_of c.as_slice.result.now in
    let each = told_each c.args.counter s.number c.of-delta.result told (ap (map fact_of) c.as_slice.ensures.value ∙ c.in_ok-told.ensures) in
    some_weaker c.in_ok-known.known (λ k. k ≡ join_of (facts_on h.facts (gx q.session)) (kept_list told)) (λ k. IsTold h (gx q.session) k)
    (λ k is. record { told = told; each = each; joins = is }) c.in_ok-known.ensures.joins

pub returns-clause-ok : goal.returns-clause-ok
returns-clause-ok g c =
    let s = c.untold_difference.new.self in
    let q = ccr_view c.args.ccr.now in
    let d = c.of-delta.result in
    let is : d ≡ delta_of delta_limit s.tables (view s.state.holding.facts) (gx q.session) = c.of-delta.ensures ∙ ap (first delta_limit) c.in_ok-missing.ensures.difference in
    let fields = c.requires.fields ∙ ap (λ (x : SiteValue). fields_of x.number c.args.counter q q.kind) (sym c.in_ok-missing.ensures.same) in
    let told = c.in_ok-told.ensures in
    c.in_ok-add_told.ensures.ok
    ∙ ap (λ (o : Operation). with_made s (Some o)) c.in_ok-operation.ensures
    ∙ (λ i. with_made s (Some (operation_with s.number c.args.counter q (fields i ++ told i))))
    ∙ ap (λ (e : DeltaValue). with_made s (Some (operation_told s.number c.args.counter q q.kind e))) is
    ∙ ap (λ (x : SiteValue). with_made x (Some (operation_told x.number c.args.counter q q.kind
    (delta_of delta_limit x.tables (view x.state.holding.facts) (gx q.session))))) c.in_ok-missing.ensures.same
