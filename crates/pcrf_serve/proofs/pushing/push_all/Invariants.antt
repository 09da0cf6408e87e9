use Rattle.pcrf_serve.specs.Earlier.{Adds}
use Rattle.pcrf_serve.specs.Events.{IsPushToHost}
use Rattle.pcrf_serve.proofs.pushing.push_all.Given as goal

abbrev pub invariant-loop-host : goal.invariant-loop-host
invariant-loop-host g l = Adds IsPushToHost (g.S.SharedSite.seen l.fn.seat) (g.S.SharedSite.seen l.seat)
