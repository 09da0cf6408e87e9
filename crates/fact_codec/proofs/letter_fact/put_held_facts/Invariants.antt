use Rattle.std.proofs.Common.{◌≡◌, ◌++◌, take, map}
use Rattle.std.specs.List.{flat_map}
use Rattle.fact_codec.specs.Spelling.{held_fact_bytes}
use Rattle.fact_codec.proofs.letter_fact.put_held_facts.Given as goal

abbrev pub invariant-loop-fact : goal.invariant-loop-fact
invariant-loop-fact g l = l.out.items ≡ l.initial.out.items ++ flat_map held_fact_bytes (map g.F.TypedFact.fact (take l.fact-index l.facts))
