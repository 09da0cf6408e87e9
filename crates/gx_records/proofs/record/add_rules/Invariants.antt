use Rattle.std.proofs.Common.{◌≡◌, ◌++◌, take}
use Rattle.std.specs.List.{flat_map}
use Rattle.gx_records.specs.GxFacts.{rules_told}
use Rattle.gx_records.proofs.record.add_rules.Given as goal

abbrev pub invariant-loop-fact : goal.invariant-loop-fact
invariant-loop-fact l = l.pairs.items ≡ l.initial.pairs.items ++ flat_map rules_told (take l.fact-index l.facts)
