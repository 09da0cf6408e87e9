use Rattle.pcrf_model.proofs.SeenLaws.{seen_is_taken, snapshots_stay}
use Rattle.pcrf_model.proofs.laws.what_is_seen_is_what_was_taken.Goals as goal

pub returns : goal.returns
returns c = record { seen = seen_is_taken; snapshots = snapshots_stay }
