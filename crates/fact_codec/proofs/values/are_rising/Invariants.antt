use Rattle.std.proofs.Common.{◌≡◌, length}
use Rattle.pcrf_values.specs.Subscribers.{subscriber_cmp}
use Rattle.pcrf_model.specs.Forms.{is_rising}
use Rattle.fact_codec.proofs.values.are_rising.Given as goal

-- all rise just where those that are left do
abbrev pub invariant-loop-first : goal.invariant-loop-first
invariant-loop-first l = is_rising subscriber_cmp l.subscribers ≡ is_rising subscriber_cmp l.left

abbrev pub decreases-loop-first : goal.decreases-loop-first
decreases-loop-first l = length l.left
