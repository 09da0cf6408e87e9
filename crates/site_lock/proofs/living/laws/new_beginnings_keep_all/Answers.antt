use Rattle.site_lock.proofs.Beginning.{keeps_all, are_restarts}
use Rattle.site_lock.proofs.living.laws.new_beginnings_keep_all.Goals as goal

pub returns : goal.returns
returns c = record { all = keeps_all; restarts = are_restarts }
