use Rattle.fact_codec.proofs.FactsAgain.{gx_facts_again}
use Rattle.fact_codec.proofs.laws.spelled_gx_facts_are_read.Goals as goal

pub returns : goal.returns
returns c = gx_facts_again
