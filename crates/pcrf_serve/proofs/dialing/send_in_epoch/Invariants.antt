use Rattle.std.proofs.Common.{◌≡◌}
use Rattle.pcrf_serve.specs.Earlier.{Gains}
use Rattle.pcrf_serve.specs.Exchanging.{IsIdle}
use Rattle.pcrf_serve.specs.Lives.{epoch_in}
use Rattle.pcrf_serve.proofs.dialing.send_in_epoch.Given as goal

abbrev pub invariant-loop-message : goal.invariant-loop-message
invariant-loop-message g l = record {
  idle : Gains IsIdle (g.A.SharedSite.seen l.fn.seat) (g.A.SharedSite.seen l.seat);
  makers : l.cursors.makers ≡ l.fn.cursors.makers;
  epoch : l.cursors.epoch ≡ epoch_in l.fn.life;
}
