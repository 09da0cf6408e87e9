use Rattle.std.proofs.Common.{◌≡◌, true, ◌++◌, length, map}
use Rattle.std.specs.List.{list_all}
use Rattle.pcrf_values.specs.Sets.{Same}
use Rattle.pcrf_model.specs.Holdings.{kept_facts}
use Rattle.site_join.specs.Groups.{group_of, is_group, facts_of_groups}
use Rattle.site_join.specs.States.{facts_of}
use Rattle.site_join.proofs.state.State.of_groups.Given as goal

-- the groups that are left have the form, and with their facts the records have what all groups have
abbrev pub invariant-loop-first : goal.invariant-loop-first
invariant-loop-first l = record {
  form : list_all (is_group l.clock) (map group_of l.left) ≡ true;
  facts : Same (kept_facts (facts_of l.gx l.af ++ facts_of_groups (map group_of l.left))) (kept_facts (facts_of_groups (map group_of l.fn.groups.items)));
}

abbrev pub decreases-loop-first : goal.decreases-loop-first
decreases-loop-first l = length l.left
