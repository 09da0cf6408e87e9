use Rattle.std.proofs.Common.{◌≡◌, [], ap, sym, ◌∙◌}
use Rattle.pcrf_values.specs.Places.{OfSession}
use Rattle.pcrf_values.specs.Held.{entry_shown}
use Rattle.af_records.proofs.TypedLaws.{session_says}
use Rattle.af_records.proofs.record.AfRec.field.Goals as goal

pub returns-in-None-clause-shown : goal.returns-in-None-clause-shown
returns-in-None-clause-shown c f e =
    c.in-None.ensures.shown (OfSession f) (c.position_of_field.ensures ∙ ap (λ n. (2, (0, (0, (n, []))))) (sym e))
    ∙ ap (λ l. entry_shown l (OfSession f)) c.self.view_is

pub returns-in-Some-Session-clause-shown : goal.returns-in-Some-Session-clause-shown
returns-in-Some-Session-clause-shown c f e =
    let said = rw c.in-Some-Session.field-0-is at c.in-Some-Session.ensures in
    sym (session_says c.in-Some-Session.tag c.in-Some-Session.value)
    ∙ said.shown (OfSession f) (c.position_of_field.ensures ∙ ap (λ n. (2, (0, (0, (n, []))))) (sym e))
    ∙ ap (λ l. entry_shown l (OfSession f)) c.self.view_is
