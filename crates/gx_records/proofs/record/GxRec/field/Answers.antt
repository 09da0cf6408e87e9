use Rattle.std.proofs.Common.{◌≡◌, [], ap, sym, ◌∙◌}
use Rattle.pcrf_values.specs.Places.{OfSession}
use Rattle.pcrf_values.specs.Held.{entry_shown}
use Rattle.gx_records.proofs.FieldLaws.{entry_of_field}
use Rattle.gx_records.proofs.record.GxRec.field.Goals as goal

pub returns-in-None-clause-shown : goal.returns-in-None-clause-shown
returns-in-None-clause-shown c f e = c.in-None.ensures.shown (OfSession f) (c.position_of_field.ensures ∙ ap (λ n. (2, (0, (0, (n, []))))) (sym e))
    ∙ ap (λ l. entry_shown l (OfSession f)) c.self.view_is

pub returns-in-Some-Field-clause-shown : goal.returns-in-Some-Field-clause-shown
returns-in-Some-Field-clause-shown c f e =
    let said = rw c.in-Some-Field.field-0-is at c.in-Some-Field.ensures in
    entry_of_field c.in-Some-Field.tag c.in-Some-Field.value
    ∙ said.shown (OfSession f) (c.position_of_field.ensures ∙ ap (λ n. (2, (0, (0, (n, []))))) (sym e))
    ∙ ap (λ l. entry_shown l (OfSession f)) c.self.view_is
