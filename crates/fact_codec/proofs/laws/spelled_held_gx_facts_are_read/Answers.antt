use Rattle.fact_codec.proofs.HeldAgain.{held_gx_facts_again}
use Rattle.fact_codec.proofs.laws.spelled_held_gx_facts_are_read.Goals as goal

pub returns : goal.returns
returns c = held_gx_facts_again
