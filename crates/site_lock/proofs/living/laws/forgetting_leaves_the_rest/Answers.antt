use Rattle.site_lock.proofs.Leaving.{leave_the_rest, no_life_changes}
use Rattle.site_lock.proofs.living.laws.forgetting_leaves_the_rest.Goals as goal

pub returns : goal.returns
returns c = record { rest = leave_the_rest; life = no_life_changes }
