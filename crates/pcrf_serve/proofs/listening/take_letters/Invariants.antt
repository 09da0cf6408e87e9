use Rattle.pcrf_serve.specs.Exchanging.{Exchanged}
use Rattle.pcrf_serve.proofs.listening.take_letters.Given as goal

abbrev pub invariant-loop-message : goal.invariant-loop-message
invariant-loop-message g l = Exchanged (g.A.SharedSite.seen l.fn.seat) (g.A.SharedSite.seen l.seat) l.fn.cursors.makers l.cursors.makers
