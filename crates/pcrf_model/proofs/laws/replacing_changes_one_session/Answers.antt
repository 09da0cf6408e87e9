use Rattle.pcrf_model.proofs.HoldingLaws.{replaces_one}
use Rattle.pcrf_model.proofs.laws.replacing_changes_one_session.Goals as goal

pub returns : goal.returns
returns c = replaces_one
