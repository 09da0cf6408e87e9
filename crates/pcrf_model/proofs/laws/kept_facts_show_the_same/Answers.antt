use Rattle.pcrf_model.proofs.ViewLaws.{sessions_alone, view-kept, view-Same}
use Rattle.pcrf_model.proofs.laws.kept_facts_show_the_same.Goals as goal

pub returns : goal.returns
returns c = record { sessions = sessions_alone; kept = view-kept; members = view-Same }
