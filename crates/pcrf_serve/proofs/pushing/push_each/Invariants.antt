use Rattle.pcrf_serve.specs.Earlier.{Adds}
use Rattle.pcrf_serve.specs.Events.{IsPushTo}
use Rattle.pcrf_serve.proofs.pushing.push_each.Given as goal

abbrev pub invariant-loop : goal.invariant-loop
invariant-loop g l = Adds (IsPushTo l.host) (g.S.SharedSite.seen l.fn.seat) (g.S.SharedSite.seen l.seat)
