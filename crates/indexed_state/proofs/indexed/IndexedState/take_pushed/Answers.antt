use Rattle.std.proofs.Common.{refl, sym, ap, ◌∙◌, subst}
use Rattle.pcrf_model.specs.Holdings.{Holding, kept_of}
use Rattle.pcrf_model.specs.Operations.{with_operation}
use Rattle.pcrf_model.specs.Sessions.{gx}
use Rattle.indexed_state.specs.Indexed.{IndexedValue, with_holding}
use Rattle.indexed_state.proofs.Refreshing.{taken_differs, taken_known}
use Rattle.indexed_state.proofs.Telling.{agree_told}
use Rattle.indexed_state.proofs.indexed.IndexedState.take_pushed.Goals as goal

pub invariant_of-self-2 : goal.invariant_of-self-2
invariant_of-self-2 c =
    let h = c.self.inside.state in
    let k = c.take.new.self in
    let o = c.args.operation.now in
    let s = gx c.args.id.now in
    let is = c.in_ok-take.ensures.ok in
    agree_told h k c.args.id.now _ (record { told = o.facts; each = c.requires.told; joins = refl })
    (taken_known h k o c.note_kept.ensures is s c.requires.session)
    (taken_differs h k o c.note_kept.ensures is s c.requires.session)
    c.self.inside.tables c.self.inside.site c.self.inside.is_whole c.self.inside.index c.self.inside.rules c.self.inside.waiting c.wait_one.new.waiting c.self.inside.aborts
    c.wait_one.ensures.keeps c.wait_one.ensures.waits c.self.invariant

pub returns-clause-ok : goal.returns-clause-ok
returns-clause-ok c =
    let o = c.args.operation.now in
    ap (λ (m : Holding). record { tables = c.self.inside.tables; holding = m }) c.in_ok-take.ensures.ok
    ∙ ap (λ (x : IndexedValue). with_holding x (kept_of (with_operation x.holding o))) c.self.view_is
