use Rattle.site_core.specs.Answering.{answer_message}
use Rattle.site_core.proofs.writing.message_bytes.Goals as goal

pub returns-in-Some-clause-fits : goal.returns-in-Some-clause-fits
unfolding answer_message
returns-in-Some-clause-fits c = c.in-Some.ensures.fits _ c.in_ok-out.ensures

pub returns-in-None-clause-too_long : goal.returns-in-None-clause-too_long
unfolding answer_message
returns-in-None-clause-too_long c = λ _. c.in-None.ensures.too_long _ c.in_ok-out.ensures
