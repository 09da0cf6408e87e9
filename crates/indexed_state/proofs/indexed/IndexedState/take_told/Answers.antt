use Rattle.std.proofs.Common.{ℕ, max, Some, sym, ap, ◌∙◌, subst}
use Rattle.pcrf_values.specs.Held.{kept_list, join_of}
use Rattle.pcrf_model.specs.Holdings.{Holding, facts_on, kept_of}
use Rattle.pcrf_model.specs.Operations.{with_operation}
use Rattle.pcrf_model.specs.Sessions.{gx}
use Rattle.site_join.specs.States.{record_facts}
use Rattle.indexed_state.specs.Indexed.{IndexedValue, IsTold, with_holding}
use Rattle.indexed_state.proofs.Agreeing.{placed_differs}
use Rattle.indexed_state.proofs.PlacedRecord.{put_is_taken, put_known, put_up_to}
use Rattle.indexed_state.proofs.Telling.{agree_told}
use Rattle.indexed_state.proofs.indexed.IndexedState.take_told.Goals as goal

pub put_gx-requires-clause-counted : goal.put_gx-requires-clause-counted
put_gx-requires-clause-counted c =
    let h = c.self.inside.state in
    let o = c.args.operation.now in
    let s = gx c.args.id.now in
    let joins = c.requires.joins ∙ ap (λ (x : IndexedValue). join_of (facts_on x.holding.facts s) (kept_list o.facts)) (sym c.self.view_is) in
    let counter = sym (c.max-clock.ensures ∙ ap (λ (n : ℕ). max n c.counter.result) c.clock.ensures.clock ∙ ap (max h.clock) c.counter.ensures.counter) in
    put_up_to h o c.note_kept.ensures c.max-clock.result counter s c.requires.session c.args.known joins c.note_form.ensures c.note_form-2.ensures

pub invariant_of-self-2 : goal.invariant_of-self-2
invariant_of-self-2 c =
    let h = c.self.inside.state in
    let o = c.args.operation.now in
    let s = gx c.args.id.now in
    let joins = c.requires.joins ∙ ap (λ (x : IndexedValue). join_of (facts_on x.holding.facts s) (kept_list o.facts)) (sym c.self.view_is) in
    let counter = sym (c.max-clock.ensures ∙ ap (λ (n : ℕ). max n c.counter.result) c.clock.ensures.clock ∙ ap (max h.clock) c.counter.ensures.counter) in
    let is = c.in_ok-put_gx.ensures.placed ∙ put_is_taken h o c.note_kept.ensures c.max-clock.result counter s c.requires.session c.args.known joins in
    let k = c.put_gx.new.self in
    let known = put_known h o c.note_kept.ensures c.max-clock.result counter s c.requires.session c.args.known joins in
    let told = subst (λ (x : IndexedValue). IsTold x.holding s c.args.known) (sym c.self.view_is) c.requires.told in
    agree_told h k c.args.id.now c.args.known told (known ∙ ap (λ (m : Holding). facts_on m.facts s) (sym is))
    (placed_differs h k s (record_facts (Some c.args.known)) c.max-clock.result c.in_ok-put_gx.ensures.placed)
    c.self.inside.tables c.self.inside.site c.self.inside.is_whole c.self.inside.index c.self.inside.rules c.self.inside.waiting c.wait_one.new.waiting c.self.inside.aborts
    c.wait_one.ensures.keeps c.wait_one.ensures.waits c.self.invariant

pub returns-clause-ok : goal.returns-clause-ok
returns-clause-ok c =
    let h = c.self.inside.state in
    let o = c.args.operation.now in
    let s = gx c.args.id.now in
    let joins = c.requires.joins ∙ ap (λ (x : IndexedValue). join_of (facts_on x.holding.facts s) (kept_list o.facts)) (sym c.self.view_is) in
    let counter = sym (c.max-clock.ensures ∙ ap (λ (n : ℕ). max n c.counter.result) c.clock.ensures.clock ∙ ap (max h.clock) c.counter.ensures.counter) in
    let is = c.in_ok-put_gx.ensures.placed ∙ put_is_taken h o c.note_kept.ensures c.max-clock.result counter s c.requires.session c.args.known joins in
    ap (λ (m : Holding). record { tables = c.self.inside.tables; holding = m }) is
    ∙ ap (λ (x : IndexedValue). with_holding x (kept_of (with_operation x.holding o))) c.self.view_is
