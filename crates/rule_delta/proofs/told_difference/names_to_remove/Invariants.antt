-- Of the facts before the index just those names are found that no rule has.
use Rattle.std.proofs.Common.{◌≡◌, take}
use Rattle.std.specs.List.{flat_map}
use Rattle.rule_delta.specs.ToldAll.{names_left}
use Rattle.rule_delta.proofs.told_difference.names_to_remove.Given as goal

abbrev pub invariant-loop-fact : goal.invariant-loop-fact
invariant-loop-fact l = l.removed.items ≡ flat_map (names_left l.fn.rules) (take l.fact-index l.fn.facts)
