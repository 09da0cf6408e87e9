use Rattle.peer_exchange.proofs.Apart.{stand_apart}
use Rattle.peer_exchange.proofs.laws.no_spelling_begins_another.Goals as goal

pub returns : goal.returns
returns c = stand_apart
