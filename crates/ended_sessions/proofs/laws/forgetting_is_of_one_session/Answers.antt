use Rattle.ended_sessions.proofs.Gone.{forgets_one, forgetting_keeps, under_unions}
use Rattle.ended_sessions.proofs.laws.forgetting_is_of_one_session.Goals as goal

pub returns : goal.returns
returns c = record { one = forgets_one; kept = forgetting_keeps; unions = under_unions }
