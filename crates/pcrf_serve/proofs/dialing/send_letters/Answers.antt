use Rattle.pcrf_serve.proofs.Chains.{gains_then}
use Rattle.pcrf_serve.specs.Exchanging.{IsIdle}
use Rattle.pcrf_serve.proofs.Following.{exchanged_idle}
use Rattle.pcrf_serve.proofs.dialing.send_letters.Goals as goal

pub returns-in_err-next : goal.returns-in_err-next
returns-in_err-next g c =
    exchanged_idle (g.A.SharedSite.seen c.args.seat.now) (g.A.SharedSite.seen c.send_in_epoch.new.seat) c.args.cursors.now.makers c.send_in_epoch.new.cursors.makers
    c.send_in_epoch.ensures.idle c.send_in_epoch.ensures.makers

pub returns-in_err-next-2 : goal.returns-in_err-next-2
returns-in_err-next-2 g c =
    exchanged_idle (g.A.SharedSite.seen c.args.seat.now) (g.A.SharedSite.seen c.go_on.new.seat) c.args.cursors.now.makers c.send_in_epoch.new.cursors.makers
    (gains_then IsIdle (g.A.SharedSite.seen c.args.seat.now) (g.A.SharedSite.seen c.loop.seat) (g.A.SharedSite.seen c.go_on.new.seat) c.loop.invariant.idle c.go_on.ensures)
    c.loop.invariant.makers

pub loop-preserved : goal.loop-preserved
loop-preserved g c = record {
  idle = gains_then IsIdle (g.A.SharedSite.seen c.args.seat.now) (g.A.SharedSite.seen c.loop.seat) (g.A.SharedSite.seen c.go_on.new.seat) c.loop.invariant.idle c.go_on.ensures;
  makers = c.loop.invariant.makers;
}

pub returns-after-loop : goal.returns-after-loop
returns-after-loop g c =
    exchanged_idle (g.A.SharedSite.seen c.args.seat.now) (g.A.SharedSite.seen c.loop.seat) c.args.cursors.now.makers c.send_in_epoch.new.cursors.makers
    c.loop.invariant.idle c.loop.invariant.makers

pub returns-in_default : goal.returns-in_default
returns-in_default g c =
    exchanged_idle (g.A.SharedSite.seen c.args.seat.now) (g.A.SharedSite.seen c.loop.seat) c.args.cursors.now.makers c.send_in_epoch.new.cursors.makers
    c.loop.invariant.idle c.loop.invariant.makers
