use Rattle.bind_index.proofs.Forgotten.{ended_show_nothing}
use Rattle.bind_index.proofs.laws.ended_sessions_show_nothing.Goals as goal

pub returns : goal.returns
returns c = ended_show_nothing
