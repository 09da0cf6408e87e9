use Rattle.ended_questions.proofs.Shown.{never_live}
use Rattle.ended_questions.proofs.laws.ended_is_never_live.Goals as goal

pub returns : goal.returns
returns c = never_live
