use Rattle.pcrf_values.proofs.ShownLaws.{value_is_greatest, fact_gives_value}
use Rattle.pcrf_values.proofs.fact_laws.value_is_the_greatest_fact.Goals as goal

pub returns : goal.returns
returns c = record { greatest = value_is_greatest; some = fact_gives_value }
