use Rattle.ended_questions.proofs.Shown.{buried_there}
use Rattle.ended_questions.proofs.laws.what_is_forgotten_is_buried.Goals as goal

pub returns : goal.returns
returns c = buried_there
