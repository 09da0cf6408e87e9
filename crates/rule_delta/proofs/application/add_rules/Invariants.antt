-- What was added, and what the rules that are left would add, is what all would.
use Rattle.std.proofs.Common.{◌≡◌, ◌++◌, map, length}
use Rattle.pcrf_model.specs.Differences.{as_told, last_of_names}
use Rattle.rule_delta.proofs.application.add_rules.Given as goal

abbrev pub invariant-loop-rule : goal.invariant-loop-rule
invariant-loop-rule l = l.pairs.items ++ map as_told (last_of_names l.rest) ≡ l.fn.pairs.items ++ map as_told (last_of_names l.fn.rules)

abbrev pub decreases-loop-rule : goal.decreases-loop-rule
decreases-loop-rule l = length l.rest
