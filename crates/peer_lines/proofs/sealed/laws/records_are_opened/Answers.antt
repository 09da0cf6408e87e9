use Rattle.peer_lines.proofs.RoundTrip.{records_opened}
use Rattle.peer_lines.proofs.sealed.laws.records_are_opened.Goals as goal

pub returns : goal.returns
returns c = records_opened
