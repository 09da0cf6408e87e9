use Rattle.pcrf_values.proofs.AbortLaws.{aborted_until_the_end}
use Rattle.pcrf_values.proofs.fact_laws.abort_is_known_until_the_end.Goals as goal

pub returns : goal.returns
returns c = aborted_until_the_end
