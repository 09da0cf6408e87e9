use Rattle.std.proofs.Common.{refl, sym, ap, ◌∙◌, subst}
use Rattle.pcrf_values.specs.Held.{kept_list, join_of}
use Rattle.pcrf_model.specs.Holdings.{Holding, facts_on, kept_of}
use Rattle.pcrf_model.specs.Operations.{with_operation}
use Rattle.pcrf_model.specs.Sessions.{gx}
use Rattle.indexed_state.specs.Alike.{BringsNothing}
use Rattle.indexed_state.specs.Indexed.{IndexedValue, with_holding}
use Rattle.indexed_state.proofs.NothingNew.{agree_nothing}
use Rattle.indexed_state.proofs.Refreshing.{taken_differs, taken_known}
use Rattle.indexed_state.proofs.indexed.IndexedState.take_refreshed.Goals as goal

pub invariant_of-self-2 : goal.invariant_of-self-2
invariant_of-self-2 c =
    let h = c.self.inside.state in
    let k = c.take.new.self in
    let o = c.args.operation.now in
    let s = gx c.args.id.now in
    let is = c.in_ok-take.ensures.ok in
    let nothing = subst (λ (x : IndexedValue). BringsNothing x.tables x.holding s (join_of (facts_on x.holding.facts s) (kept_list o.facts))) (sym c.self.view_is) c.requires.nothing in
    let known = taken_known h k o c.note_kept.ensures is s c.requires.session in
    agree_nothing c.self.inside.tables h k c.args.id.now (join_of (facts_on h.facts s) (kept_list o.facts)) known (taken_differs h k o c.note_kept.ensures is s c.requires.session) nothing
    c.self.inside.site c.self.inside.is_whole c.self.inside.index c.self.inside.rules c.self.inside.waiting c.self.inside.aborts c.self.invariant

pub returns-clause-ok : goal.returns-clause-ok
returns-clause-ok c =
    let o = c.args.operation.now in
    ap (λ (m : Holding). record { tables = c.self.inside.tables; holding = m }) c.in_ok-take.ensures.ok
    ∙ ap (λ (x : IndexedValue). with_holding x (kept_of (with_operation x.holding o))) c.self.view_is
