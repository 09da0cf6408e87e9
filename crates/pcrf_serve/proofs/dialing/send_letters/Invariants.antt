use Rattle.std.proofs.Common.{◌≡◌}
use Rattle.pcrf_serve.specs.Earlier.{Gains}
use Rattle.pcrf_serve.specs.Exchanging.{IsIdle}
use Rattle.pcrf_serve.proofs.dialing.send_letters.Given as goal

abbrev pub invariant-loop : goal.invariant-loop
invariant-loop g l = record {
  idle : Gains IsIdle (g.A.SharedSite.seen l.fn.seat) (g.A.SharedSite.seen l.seat);
  makers : l.cursors.makers ≡ l.fn.cursors.makers;
}
