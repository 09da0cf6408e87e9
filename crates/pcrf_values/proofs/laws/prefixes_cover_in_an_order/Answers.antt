use Rattle.pcrf_values.proofs.PrefixLaws.{covers_itself, covers_onward}
use Rattle.pcrf_values.proofs.laws.prefixes_cover_in_an_order.Goals as goal

pub returns : goal.returns
returns c = record { itself = covers_itself; onward = covers_onward }
