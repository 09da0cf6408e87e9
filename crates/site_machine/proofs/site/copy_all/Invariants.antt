use Rattle.std.proofs.Common.{◌≡◌, take}
use Rattle.site_machine.proofs.site.copy_all.Given as goal

abbrev pub invariant-loop-operation : goal.invariant-loop-operation
invariant-loop-operation l = l.copies.items ≡ take l.operation-index l.operations
