use Rattle.pcrf_model.proofs.DueLaws.{first_due, none_due}
use Rattle.pcrf_model.proofs.laws.first_due_session_is_pushed.Goals as goal

pub returns : goal.returns
returns c = record { first = first_due; none = none_due }
