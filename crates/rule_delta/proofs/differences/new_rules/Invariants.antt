-- Of the rules before the index just those are found that were not told so.
use Rattle.std.proofs.Common.{◌≡◌, take}
use Rattle.pcrf_model.specs.Differences.{difference}
use Rattle.rule_delta.proofs.differences.new_rules.Given as goal

abbrev pub invariant-loop-rule : goal.invariant-loop-rule
invariant-loop-rule l = l.installed.items ≡ (difference l.fn.told (take l.rule-index l.fn.rules)).installed
