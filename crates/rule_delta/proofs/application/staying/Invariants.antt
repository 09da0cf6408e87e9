-- Of the entries before the index just those are kept that stay.
use Rattle.std.proofs.Common.{◌≡◌, take}
use Rattle.std.specs.List.{filter}
use Rattle.pcrf_model.specs.Differences.{stays}
use Rattle.rule_delta.proofs.application.staying.Given as goal

abbrev pub invariant-loop-pair : goal.invariant-loop-pair
invariant-loop-pair l = l.kept.items ≡ filter (stays l.fn.delta) (take l.pair-index l.fn.told)
