use Rattle.std.proofs.Common.{◌≡◌, ◌<◌, ◌≤◌, ◌^◌, length, get_or, rules, arith}
use Rattle.std.proofs.lemmas.Result.{err_from_is_err_and}
use Rattle.site_join.specs.Groups.{group_of}
use Rattle.peer_exchange.specs.Spelling.{held_group_bytes}
use Rattle.peer_exchange.proofs.Lengths.{seen_least, one_group_among}
use Rattle.peer_exchange.proofs.writing.put_groups.Goals as goal

pub returns-then-count-clause-too_long : goal.returns-then-count-clause-too_long
returns-then-count-clause-too_long c = λ _. omega (arith, c.if-count.true, seen_least c.args.groups.now)

pub returns-in_err-put_group-clause-too_long : goal.returns-in_err-put_group-clause-too_long
returns-in_err-put_group-clause-too_long c = λ failed.
    let lt : c.loop-group.group-index < length c.args.groups.now = search rules in
    let is : c.group-item.result ≡ get_or c.args.groups.now c.loop-group.group-index c.group-item.result = search rules in
    let p = err_from_is_err_and c.from_residual-in_err-put_group.result c.from_residual-in_err-put_group.ensures.1 in
    let long : 2 ^ 32 ≤ length (held_group_bytes (group_of c.group-item.result)) = c.in_err-put_group.ensures.too_long (rw (← p.2, ← p.1) failed) in
    omega (arith, long, one_group_among c.args.groups.now c.loop-group.group-index c.group-item.result lt is)
