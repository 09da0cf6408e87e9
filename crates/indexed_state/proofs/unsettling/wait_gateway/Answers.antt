use Rattle.std.proofs.Common.{sym, ap, ◌∙◌, is_some}
use Rattle.pcrf_values.proofs.Plain.{clash}
use Rattle.rule_delta.proofs.Waited.{keeps_itself}
use Rattle.indexed_state.proofs.unsettling.wait_gateway.Goals as goal

pub returns-then-is_some-clause-keeps : goal.returns-then-is_some-clause-keeps
returns-then-is_some-clause-keeps c = keeps_itself c.args.waiting.now

pub returns-then-is_some-clause-waits : goal.returns-then-is_some-clause-waits
returns-then-is_some-clause-waits c = λ e. clash _ (sym c.is_some.ensures ∙ c.if-is_some.true) (ap is_some e)

pub returns-clause-waits : goal.returns-clause-waits
returns-clause-waits c = λ e. c.wait_one.ensures.waits
