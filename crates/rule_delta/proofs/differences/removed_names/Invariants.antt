-- Of the names before the index just those are found that no rule has.
use Rattle.std.proofs.Common.{◌≡◌, take}
use Rattle.pcrf_model.specs.Differences.{difference}
use Rattle.rule_delta.proofs.differences.removed_names.Given as goal

abbrev pub invariant-loop-name : goal.invariant-loop-name
invariant-loop-name l = l.removed.items ≡ (difference (take l.name-index l.fn.told) l.fn.rules).removed
