use Rattle.std.proofs.Common.{refl}
use Rattle.ended_questions.proofs.laws.sites_forget.Goals as goal

pub returns : goal.returns
returns c = record { two = refl; three = refl; ended = refl; others = refl }
