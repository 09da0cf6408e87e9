use Rattle.std.proofs.Common.{◌≡◌, drop, map, ◌↔◌}
use Rattle.dia_base.specs.NeighbourRequests.{number_of}
use Rattle.dia_base.proofs.neighbours.applications.same_applications.Given as goal

-- the lists are the same where what is left of them is
abbrev pub invariant-loop-application : goal.invariant-loop-application
invariant-loop-application l = (map number_of (drop l.application-index l.ours) ≡ map number_of l.rest) ↔ (map number_of l.ours ≡ map number_of l.theirs)
