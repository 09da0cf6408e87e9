use Rattle.bind_index.proofs.CoveredNetworks.{covers_in_its_network}
use Rattle.bind_index.proofs.laws.prefixes_cover_in_their_network.Goals as goal

pub returns : goal.returns
returns c = covers_in_its_network
