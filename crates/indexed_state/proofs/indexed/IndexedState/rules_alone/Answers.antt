use Rattle.std.proofs.Common.{sym, ◌∙◌, subst}
use Rattle.indexed_state.specs.Indexed.{IndexedValue}
use Rattle.indexed_state.specs.Opened.{OpensAlone}
use Rattle.indexed_state.proofs.Opening.{nothing_there, opens_alone}
use Rattle.indexed_state.proofs.indexed.IndexedState.rules_alone.Goals as goal

pub returns : goal.returns
returns c =
    let id = c.args.id.now in
    let known = c.args.known.now in
    let made = c.in_ok-rules_of_row.field-0.items in
    let unknown = sym c.gx.ensures ∙ nothing_there (λ x. x.now) c.gx.result (sym c.is_some.ensures ∙ c.if-is_some.false) in
    let live = sym c.live.ensures ∙ c.if-not-live.false in
    subst (λ (x : IndexedValue). OpensAlone x.tables x.holding id known made) c.self.view_is
    (opens_alone c.self.inside.tables c.self.inside.state id known c.self.inside.index made unknown live (c.self.invariant.covers c.if-not-self.false)
    (c.no_call_at.ensures c.if-not-no_call_at.false) (c.no_call_in.ensures c.if-not-no_call_in.false) c.in_ok-rules_of_row.ensures.rules c.in_ok-rules_of_row.ensures.apart)
