use Rattle.std.proofs.Common.{◌≡◌, ◌<◌, ◌≤◌, ◌^◌, length, get_or, rules, arith}
use Rattle.std.proofs.lemmas.Result.{err_from_is_err_and}
use Rattle.peer_exchange.specs.Spelling.{operation_bytes}
use Rattle.peer_exchange.proofs.Lengths.{operations_least, one_among}
use Rattle.peer_exchange.proofs.writing.put_operations.Goals as goal

pub returns-then-count-clause-too_long : goal.returns-then-count-clause-too_long
returns-then-count-clause-too_long c = λ _. omega (arith, c.if-count.true, operations_least c.args.operations.now)

pub returns-in_err-put_operation-clause-too_long : goal.returns-in_err-put_operation-clause-too_long
returns-in_err-put_operation-clause-too_long c = λ failed.
    let lt : c.loop-operation.operation-index < length c.args.operations.now = search rules in
    let is : c.operation-item.result ≡ get_or c.args.operations.now c.loop-operation.operation-index c.operation-item.result = search rules in
    let p = err_from_is_err_and c.from_residual-in_err-put_operation.result c.from_residual-in_err-put_operation.ensures.1 in
    let long : 2 ^ 32 ≤ length (operation_bytes c.operation-item.result) = c.in_err-put_operation.ensures.too_long (rw (← p.2, ← p.1) failed) in
    omega (arith, long, one_among c.args.operations.now c.loop-operation.operation-index c.operation-item.result lt is)
