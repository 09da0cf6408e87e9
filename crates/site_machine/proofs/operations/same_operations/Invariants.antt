use Rattle.std.proofs.Common.{◌≡◌, drop, ◌↔◌}
use Rattle.site_machine.proofs.operations.same_operations.Given as goal

-- the lists are the same where what is left of them is
abbrev pub invariant-loop-operation : goal.invariant-loop-operation
invariant-loop-operation l = (drop l.operation-index l.ours ≡ l.rest) ↔ (l.ours ≡ l.theirs)
