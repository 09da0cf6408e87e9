use Rattle.std.proofs.Common.{arith}
use Rattle.fact_codec.proofs.FactLengths.{facts_least}
use Rattle.fact_codec.proofs.letter_fact.put_facts.Goals as goal

pub returns-then-count-clause-too_long : goal.returns-then-count-clause-too_long
returns-then-count-clause-too_long g c = λ _. omega (arith, c.if-count.true, facts_least g.F.TypedFact.fact c.args.facts.now)
