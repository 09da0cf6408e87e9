use Rattle.std.proofs.Common.{◌≡◌, ◌++◌, map}
use Rattle.std.specs.List.{filter_map}
use Rattle.pcrf_model.specs.Sessions.{af}
use Rattle.site_join.specs.Groups.{group_at, group_of}
use Rattle.site_join.proofs.groups.add_af.Given as goal

-- the groups so far, and those of the records that are left
abbrev pub invariant-loop-id : goal.invariant-loop-id
invariant-loop-id l = map group_of l.groups.items ++ filter_map (group_at af) l.id-iterator
    ≡ map group_of l.initial.groups.items ++ filter_map (group_at af) l.fn.records
