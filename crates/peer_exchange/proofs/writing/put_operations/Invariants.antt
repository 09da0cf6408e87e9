use Rattle.std.proofs.Common.{◌≡◌, ◌++◌, take}
use Rattle.std.specs.List.{flat_map}
use Rattle.peer_exchange.specs.Spelling.{operation_bytes}
use Rattle.peer_exchange.proofs.writing.put_operations.Given as goal

abbrev pub invariant-loop-operation : goal.invariant-loop-operation
invariant-loop-operation l = l.out.items ≡ l.initial.out.items ++ flat_map operation_bytes (take l.operation-index l.operations)
