use Rattle.site_lock.proofs.Beginning.{entries_stay, peers_still, ranges_still}
use Rattle.site_lock.proofs.living.laws.cursors_count_across_beginnings.Goals as goal

pub returns : goal.returns
returns c = record { makers = entries_stay; peers = peers_still; ranges = ranges_still }
