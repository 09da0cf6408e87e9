use Rattle.std.proofs.Common.{◌≡◌, ◌-◌, ◌<◌, take}
use Rattle.pcrf_values.proofs.order.compare_bytes.Given as goal

-- what was passed is the same in both
abbrev pub invariant-loop-at : goal.invariant-loop-at
invariant-loop-at l = (take l.at l.left ≡ take l.at l.right) × (l.at < l.both)

abbrev pub decreases-loop-at : goal.decreases-loop-at
decreases-loop-at l = l.both - l.at
