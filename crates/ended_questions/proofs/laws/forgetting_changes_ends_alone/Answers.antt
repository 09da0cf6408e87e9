use Rattle.ended_questions.proofs.Shown.{changes_ends_alone, no_deed}
use Rattle.ended_questions.proofs.laws.forgetting_changes_ends_alone.Goals as goal

pub returns : goal.returns
returns c = record { ends = changes_ends_alone; deeds = no_deed }
