use Rattle.std.proofs.Common.{◌≡◌, length, map}
use Rattle.std.specs.List.{list_all}
use Rattle.site_join.specs.Groups.{group_of, is_group}
use Rattle.site_join.proofs.groups.are_groups.Given as goal

-- all are of the form just where those that are left are
abbrev pub invariant-loop-first : goal.invariant-loop-first
invariant-loop-first l = list_all (is_group l.clock) (map group_of l.groups) ≡ list_all (is_group l.clock) (map group_of l.left)

abbrev pub decreases-loop-first : goal.decreases-loop-first
decreases-loop-first l = length l.left
