use Rattle.fact_codec.proofs.HeldAgain.{held_af_facts_again}
use Rattle.fact_codec.proofs.laws.spelled_held_af_facts_are_read.Goals as goal

pub returns : goal.returns
returns c = held_af_facts_again
