use Rattle.std.proofs.lemmas.Result.{err_from_is_err_and}
use Rattle.peer_lines.specs.Notices.{each_at}
use Rattle.peer_lines.proofs.Notices.{host_fails, host_read, host_twice, hosts_read, was_new, was_old}
use Rattle.peer_lines.proofs.notice.each_at.Goals as goal

pub returns-in_err-host : goal.returns-in_err-host
returns-in_err-host c =
    let p = err_from_is_err_and c.from_residual.result c.from_residual.ensures.1 in
    rw (p.1, p.2) (host_fails c.loop.hosts.keys c.args.count c.loop.counter c.loop.rest.now (each_at c.args.count c.args.bytes.now) c.loop.invariant c.in_err-host.field-0.0 c.loop-test.true c.in_err-host.ensures)

pub returns-in-Ok-false : goal.returns-in-Ok-false
returns-in-Ok-false c =
    host_twice c.loop.hosts.keys c.args.count c.loop.counter c.loop.rest.now (each_at c.args.count c.args.bytes.now) c.loop.invariant c.in_ok-host.host c.in_ok-host.after.now c.loop-test.true c.in_ok-host.ensures (was_old _ _ c.in-Ok-false.ensures.added c.in-Ok-false.field-0-test)

pub loop-preserved : goal.loop-preserved
loop-preserved c =
    rw c.in-Ok-true.ensures.keys (host_read c.loop.hosts.keys c.args.count c.loop.counter c.loop.rest.now (each_at c.args.count c.args.bytes.now) c.loop.invariant c.in_ok-host.host c.in_ok-host.after.now c.loop-test.true c.in_ok-host.ensures (was_new _ _ c.in-Ok-true.ensures.added c.in-Ok-true.field-0-test))

pub returns : goal.returns
returns c = hosts_read c.loop.hosts.keys c.args.count c.loop.counter c.loop.rest.now (each_at c.args.count c.args.bytes.now) c.loop.invariant c.loop-test.false
