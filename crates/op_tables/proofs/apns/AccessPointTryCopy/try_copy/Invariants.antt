use Rattle.std.proofs.Common.{◌≡◌, take}
use Rattle.op_tables.proofs.apns.AccessPointTryCopy.try_copy.Given as goal

-- the rules so far
abbrev pub invariant-loop-rule : goal.invariant-loop-rule
invariant-loop-rule l = l.rules.items ≡ take l.rule-index l.rule-items
