use Rattle.pcrf_serve.specs.Earlier.{Adds}
use Rattle.pcrf_serve.specs.Serving.{IsOfConnection}
use Rattle.pcrf_serve.proofs.conversing.drain.Given as goal

abbrev pub invariant-loop : goal.invariant-loop
invariant-loop g l = Adds IsOfConnection (g.S.SharedSite.seen l.fn.at.seat) (g.S.SharedSite.seen l.at.seat)
