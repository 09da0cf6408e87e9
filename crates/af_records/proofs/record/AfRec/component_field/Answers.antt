use Rattle.std.proofs.Common.{◌≡◌, [], ap, sym, ◌∙◌}
use Rattle.pcrf_values.specs.Places.{OfComponent}
use Rattle.pcrf_values.specs.Held.{entry_shown}
use Rattle.af_records.proofs.TypedLaws.{component_says}
use Rattle.af_records.proofs.record.AfRec.component_field.Goals as goal

pub returns-in-None-clause-shown : goal.returns-in-None-clause-shown
returns-in-None-clause-shown c f e =
    c.in-None.ensures.shown (OfComponent c.args.component f) (c.component_position.ensures ∙ ap (λ n. (5, (c.args.component, (0, (n, []))))) (sym e))
    ∙ ap (λ l. entry_shown l (OfComponent c.args.component f)) c.self.view_is

pub returns-in-Some-Component-clause-shown : goal.returns-in-Some-Component-clause-shown
returns-in-Some-Component-clause-shown c f e =
    let said = rw c.in-Some-Component.field-0-is at c.in-Some-Component.ensures in
    sym (component_says _ c.in-Some-Component.tag c.in-Some-Component.value)
    ∙ said.shown (OfComponent c.args.component f) (c.component_position.ensures ∙ ap (λ n. (5, (c.args.component, (0, (n, []))))) (sym e))
    ∙ ap (λ l. entry_shown l (OfComponent c.args.component f)) c.self.view_is
