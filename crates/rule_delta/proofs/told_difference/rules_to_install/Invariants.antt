-- Of the rules before the index just those are found that aren't told so.
use Rattle.std.proofs.Common.{◌≡◌, not, take}
use Rattle.std.specs.List.{filter}
use Rattle.rule_delta.specs.ToldAll.{tell}
use Rattle.rule_delta.proofs.told_difference.rules_to_install.Given as goal

abbrev pub invariant-loop-rule : goal.invariant-loop-rule
invariant-loop-rule l = l.installed.items ≡ filter (λ r. not (tell l.fn.facts r)) (take l.rule-index l.fn.rules)
