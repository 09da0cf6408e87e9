use Rattle.std.proofs.Common.{◌≡◌, map, take}
use Rattle.pcrf_model.specs.Rules.{operator_rule}
use Rattle.pcc_rules.specs.Listing.{keyed}
use Rattle.pcc_rules.proofs.derivation.operator_rules.Given as goal

-- the rules so far
abbrev pub invariant-loop-rule : goal.invariant-loop-rule
invariant-loop-rule l = l.rules.items ≡ map keyed (map operator_rule (take l.rule-index l.rule-items))
