use Rattle.pcrf_model.proofs.AbortingLaws.{first_abandoned, none_abandoned, aborts_once, abort_alone}
use Rattle.pcrf_model.proofs.laws.first_abandoned_session_is_aborted_once.Goals as goal

pub returns : goal.returns
returns c = record { first = first_abandoned; none = none_abandoned; once = aborts_once; alone = abort_alone }
