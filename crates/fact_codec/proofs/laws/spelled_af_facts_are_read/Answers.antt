use Rattle.fact_codec.proofs.FactsAgain.{af_facts_again}
use Rattle.fact_codec.proofs.laws.spelled_af_facts_are_read.Goals as goal

pub returns : goal.returns
returns c = af_facts_again
