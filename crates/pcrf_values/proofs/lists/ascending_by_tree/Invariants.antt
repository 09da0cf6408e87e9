use Rattle.std.proofs.Common.{◌≡◌}
use Rattle.std.specs.Prelude.{length}
use Rattle.pcrf_values.specs.Ascending.{ascending}
use Rattle.pcrf_values.proofs.Placing.{place_all}
use Rattle.pcrf_values.proofs.lists.ascending_by_tree.Given as goal

-- what is left, placed among the keys, is the ascending list of all
abbrev pub invariant-loop-value : goal.invariant-loop-value
invariant-loop-value g l = place_all g.T.Ord.cmp l.left.items l.tree.keys ≡ ascending g.T.Ord.cmp l.fn.given.items

abbrev pub decreases-loop-value : goal.decreases-loop-value
decreases-loop-value g l = length l.left.items

-- the members are the keys so far
abbrev pub invariant-loop-value-2 : goal.invariant-loop-value-2
invariant-loop-value-2 g l = l.members.items ≡ l.yielded
