use Rattle.bind_index.proofs.Neighbours.{neighbours_alone}
use Rattle.bind_index.proofs.laws.change_of_one_session_changes_its_neighbours_alone.Goals as goal

pub returns : goal.returns
returns c = neighbours_alone
