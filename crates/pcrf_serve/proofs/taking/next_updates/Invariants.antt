use Rattle.std.proofs.Common.{◌≡◌, ◌<◌, ◌++◌, map, length}
use Rattle.gx_profile.specs.Requests.{ccr_view}
use Rattle.pcrf_serve.specs.LookLimits.{piece}
use Rattle.pcrf_serve.specs.Taking.{taken_among}
use Rattle.pcrf_serve.proofs.taking.next_updates.Given as goal

-- the updates so far are those of the sessions that were passed, and fewer than are wanted
abbrev pub invariant-loop-session : goal.invariant-loop-session
invariant-loop-session g l =
    (goal.iterator-loop-session g).can_next l.sessions ×
    (goal.iterator-loop-session g).is_finite l.sessions ×
    (map ccr_view l.updates.items ++ taken_among (g.L.Leaves.leaves l.leaves) l.sessions ≡ taken_among (g.L.Leaves.leaves l.leaves) l.initial.sessions) ×
    (length l.updates.items < piece)
