use Rattle.std.proofs.Common.{◌≡◌, [], ap, sym, ◌∙◌}
use Rattle.pcrf_values.specs.Places.{OfFlow}
use Rattle.pcrf_values.specs.Held.{entry_shown}
use Rattle.af_records.proofs.TypedLaws.{flow_says}
use Rattle.af_records.proofs.record.AfRec.flow_field.Goals as goal

pub returns-in-None-clause-shown : goal.returns-in-None-clause-shown
returns-in-None-clause-shown c f e =
    c.in-None.ensures.shown (OfFlow c.args.component c.args.flow f) (c.flow_position.ensures ∙ ap (λ n. (6, (c.args.component, (c.args.flow, (n, []))))) (sym e))
    ∙ ap (λ l. entry_shown l (OfFlow c.args.component c.args.flow f)) c.self.view_is

pub returns-in-Some-Flow-clause-shown : goal.returns-in-Some-Flow-clause-shown
returns-in-Some-Flow-clause-shown c f e =
    let said = rw c.in-Some-Flow.field-0-is at c.in-Some-Flow.ensures in
    sym (flow_says _ _ c.in-Some-Flow.tag c.in-Some-Flow.value)
    ∙ said.shown (OfFlow c.args.component c.args.flow f) (c.flow_position.ensures ∙ ap (λ n. (6, (c.args.component, (c.args.flow, (n, []))))) (sym e))
    ∙ ap (λ l. entry_shown l (OfFlow c.args.component c.args.flow f)) c.self.view_is
