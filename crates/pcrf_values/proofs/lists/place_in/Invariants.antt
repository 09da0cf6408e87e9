use Rattle.std.proofs.Common.{◌≡◌}
use Rattle.pcrf_values.proofs.Placing.{Passes}
use Rattle.pcrf_values.proofs.lists.place_in.Given as goal

-- the members are as they were, and the value is above each that was looked at
abbrev pub invariant-loop-at : goal.invariant-loop-at
invariant-loop-at g l = (l.members.items ≡ l.initial.members.items) × Passes g.T.Ord.cmp l.value l.at l.members.items
