use Rattle.peer_lines.proofs.RoundTrip.{others_not_opened}
use Rattle.peer_lines.proofs.sealed.laws.others_are_not_opened.Goals as goal

pub returns : goal.returns
returns c = others_not_opened
