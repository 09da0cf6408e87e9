use Rattle.std.proofs.Common.{◌≡◌, map}
use Rattle.pcc_rules.specs.Listing.{unkeyed}
use Rattle.pcc_rules.proofs.derivation.in_order.Given as goal

-- the rules behind those so far
abbrev pub invariant-loop-rule : goal.invariant-loop-rule
invariant-loop-rule l = l.made.items ≡ map unkeyed l.yielded
