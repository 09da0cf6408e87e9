use Rattle.std.proofs.Common.{◌≡◌, true, sym, ap, ◌∙◌, subst, max}
use Rattle.pcrf_model.specs.Holdings.{Holding, kept_of}
use Rattle.pcrf_model.specs.Operations.{with_operation}
use Rattle.pcrf_model.specs.Sessions.{Session}
use Rattle.pcrf_model.specs.Forms.{is_holding, is_record}
use Rattle.pcrf_model.proofs.FormLaws.{kept_in_form, with_operation_form}
use Rattle.pcrf_model.proofs.RecordForms.{operation_record}
use Rattle.site_join.specs.States.{held_by}
use Rattle.site_join.proofs.StateLaws.{takes}
use Rattle.site_join.proofs.state.State.take.Goals as goal

pub returns-clause-ok : goal.returns-clause-ok
returns-clause-ok c =
    let gx = c.in_ok-join_facts.ensures.gx in
    let af = c.in_ok-join_facts.ensures.af in
    let clock = c.max-self-inside.ensures ∙ ap (max c.self.inside.clock) c.counter.ensures.counter in
    (λ i. held_by (gx i) (af i) (clock i))
    ∙ takes c.self.inside.gx c.self.inside.af c.self.inside.clock c.facts.result.now c.args.operation.now c.facts.ensures.session c.facts.ensures.facts c.note_valid.ensures c.note_valid-2.ensures
    ∙ ap (λ (h : Holding). kept_of (with_operation h c.args.operation.now)) c.self.view_is

pub invariant_of-self-2 : goal.invariant_of-self-2
invariant_of-self-2 c =
    let gx = c.in_ok-join_facts.ensures.gx in
    let af = c.in_ok-join_facts.ensures.af in
    let clock = c.max-self-inside.ensures ∙ ap (max c.self.inside.clock) c.counter.ensures.counter in
    let held = held_by c.self.inside.gx c.self.inside.af c.self.inside.clock in
    let o = c.args.operation.now in
    let is = (λ i. held_by (gx i) (af i) (clock i))
    ∙ takes c.self.inside.gx c.self.inside.af c.self.inside.clock c.facts.result.now o c.facts.ensures.session c.facts.ensures.facts c.note_valid.ensures c.note_valid-2.ensures in
    subst (λ (h : Holding). is_holding h ≡ true) (sym is)
    (kept_in_form (with_operation held o) (with_operation_form held o c.self.invariant c.note_form.ensures))

pub join_facts-requires : goal.join_facts-requires
join_facts-requires c =
    (λ i. let s : Session = c.facts.ensures.session i in is_record s.kind (c.facts.ensures.facts i)) ∙ operation_record c.args.operation.now c.note_form.ensures
