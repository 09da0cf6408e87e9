use Rattle.std.proofs.Common.{◌≡◌, ℕ, ◌+◌, true, List, ◌++◌, map, Some, ap, sym, ◌∙◌, subst, arith}
use Rattle.pcrf_values.specs.Facts.{Fact}
use Rattle.pcrf_values.specs.Held.{kept_list, join_of}
use Rattle.pcrf_values.specs.ToldWords.{told_rules}
use Rattle.pcrf_values.specs.Limits.{delta_limit}
use Rattle.pcrf_values.specs.RuleValues.{DeltaValue, RuleValue}
use Rattle.pcrf_model.specs.Differences.{difference, first}
use Rattle.pcrf_model.specs.Forms.{is_operation, is_record}
use Rattle.pcrf_model.specs.Holdings.{facts_on, kept_of}
use Rattle.pcrf_model.specs.Operations.{Operation, with_operation}
use Rattle.pcrf_model.specs.Serving.{delta_of}
use Rattle.pcrf_model.specs.Sessions.{Gx, gx}
use Rattle.pcrf_model.specs.Views.{view}
use Rattle.pcrf_model.proofs.ServedForms.{ccr_parts, origin_parts}
use Rattle.gx_records.specs.declared.fact.GxFact.{GxFact}
use Rattle.gx_records.specs.GxFacts.{fact_of}
use Rattle.gx_profile.specs.Requests.{ccr_view}
use Rattle.site_machine.specs.Facts.{fields_of, operation_made, operation_told, operation_with}
use Rattle.site_machine.specs.Sites.{with_made}
use Rattle.site_machine.proofs.Formed.{stamped, entries_tell, told_formed}
use Rattle.site_machine.proofs.GrantedAlone.{comes_told, delta_is, joined_twice, names_apart}
use Rattle.site_machine.proofs.Telling.{told_each, told_record}
use Rattle.site_machine.proofs.site.Site.grant.Goals as goal

pub told_joined-requires : goal.told_joined-requires
told_joined-requires g c = λ some.
    let s = c.args.self.now in
    let h = s.state.holding in
    let q = ccr_view c.args.ccr.now in
    let next = c.requires.next in
    let rs = c.args.rules.items in
    let k = kept_of (with_operation h (operation_made s.number (h.clock + 1) q q.kind)) in
    let joins = c.requires.joins ∙ ap (λ (n : ℕ). join_of (facts_on h.facts (gx q.session)) (kept_list (fields_of s.number n q q.kind))) next in
    let d = c.of-delta.result in
    let lacks : d ≡ first delta_limit (difference (told_rules c.args.known) rs) = c.of-delta.ensures ∙ ap (first delta_limit) c.in_ok-missing.ensures
    ∙ ap (λ (rules : List RuleValue). first delta_limit (difference (told_rules c.args.known) rules)) c.as_slice.ensures.value in
    let is : d ≡ delta_of delta_limit s.tables (view k.facts) (gx q.session) = lacks ∙ delta_is s q c.note_kept.ensures c.args.known rs joins c.requires.alone in
    let apart = names_apart s q c.note_kept.ensures c.args.known rs joins c.requires.alone in
    let text = (origin_parts q.session q.host q.realm (ccr_parts q c.note_ccr.ensures).0).0 in
    let told = ap (map fact_of) c.as_slice-2.ensures.value ∙ c.in_ok-told.ensures in
    subst (λ (fs : List Fact). is_record Gx fs ≡ true) (sym told)
    (told_record c.args.counter s.number q.session d (stamped c.args.counter s.number (omega (arith, next)) c.requires.within c.note_number.ensures) text
    (entries_tell s.tables k.facts q.session d is apart c.note_entries.ensures.names c.note_entries.ensures.rule_names c.note_entries.ensures.rules)
    (λ none. some (told ∙ none)))

pub all_made-requires : goal.all_made-requires
all_made-requires g c =
    let s = c.args.self.now in
    let h = s.state.holding in
    let q = ccr_view c.args.ccr.now in
    let next = c.requires.next in
    let rs = c.args.rules.items in
    let k = kept_of (with_operation h (operation_made s.number (h.clock + 1) q q.kind)) in
    let joins = c.requires.joins ∙ ap (λ (n : ℕ). join_of (facts_on h.facts (gx q.session)) (kept_list (fields_of s.number n q q.kind))) next in
    let d = c.of-delta.result in
    let lacks : d ≡ first delta_limit (difference (told_rules c.args.known) rs) = c.of-delta.ensures ∙ ap (first delta_limit) c.in_ok-missing.ensures
    ∙ ap (λ (rules : List RuleValue). first delta_limit (difference (told_rules c.args.known) rules)) c.as_slice.ensures.value in
    let is : d ≡ delta_of delta_limit s.tables (view k.facts) (gx q.session) = lacks ∙ delta_is s q c.note_kept.ensures c.args.known rs joins c.requires.alone in
    let apart = names_apart s q c.note_kept.ensures c.args.known rs joins c.requires.alone in
    let fields = c.requires.fields in
    let told = c.in_ok-told.ensures in
    (λ i. is_operation (operation_with s.number c.args.counter q (fields i ++ told i)))
    ∙ told_formed c.args.counter s.number q d (stamped c.args.counter s.number (omega (arith, next)) c.requires.within c.note_number.ensures) c.note_ccr.ensures c.requires.opens
    (entries_tell s.tables k.facts q.session d is apart c.note_entries.ensures.names c.note_entries.ensures.rule_names c.note_entries.ensures.rules)

pub add_opened-requires-clause-joins : goal.add_opened-requires-clause-joins
add_opened-requires-clause-joins g c =
    let s = c.args.self.now in
    let q = ccr_view c.args.ccr.now in
    let own = facts_on s.state.holding.facts (gx q.session) in
    let told = map fact_of c.in_ok-told.told.items in
    c.in_ok-known.ensures
    ∙ ap (λ (fs : List GxFact). join_of c.args.known (kept_list (map fact_of fs))) c.as_slice-2.ensures.value
    ∙ ap (λ (fs : List Fact). join_of fs (kept_list told)) c.requires.joins
    ∙ joined_twice own (fields_of s.number c.args.counter q q.kind) told
    ∙ ap (λ (fs : List Fact). join_of own (kept_list (fs ++ told))) (sym c.requires.fields)
    ∙ ap (λ (o : Operation). join_of own (kept_list o.facts)) (sym c.in_ok-operation.ensures)

pub add_opened-requires-clause-alone : goal.add_opened-requires-clause-alone
add_opened-requires-clause-alone g c =
    let s = c.args.self.now in
    let q = ccr_view c.args.ccr.now in
    let told = map fact_of c.as_slice-2.result.now in
    let each = told_each c.args.counter s.number c.of-delta.result told (ap (map fact_of) c.as_slice-2.ensures.value ∙ c.in_ok-told.ensures) in
    comes_told s q.session c.args.known told c.in_ok-known.known c.args.rules.items each c.in_ok-known.ensures c.requires.alone

pub returns-clause-ok : goal.returns-clause-ok
returns-clause-ok g c =
    let s = c.args.self.now in
    let q = ccr_view c.args.ccr.now in
    let lacks : c.of-delta.result ≡ first delta_limit (difference (told_rules c.args.known) c.args.rules.items) = c.of-delta.ensures ∙ ap (first delta_limit) c.in_ok-missing.ensures
    ∙ ap (λ (rules : List RuleValue). first delta_limit (difference (told_rules c.args.known) rules)) c.as_slice.ensures.value in
    let fields = c.requires.fields in
    let told = c.in_ok-told.ensures in
    c.in_ok-add_opened.ensures.ok
    ∙ ap (λ (o : Operation). with_made s (Some o)) c.in_ok-operation.ensures
    ∙ (λ i. with_made s (Some (operation_with s.number c.args.counter q (fields i ++ told i))))
    ∙ ap (λ (e : DeltaValue). with_made s (Some (operation_told s.number c.args.counter q q.kind e))) lacks
