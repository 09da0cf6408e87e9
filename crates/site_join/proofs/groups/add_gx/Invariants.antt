use Rattle.std.proofs.Common.{◌≡◌, ◌++◌, map}
use Rattle.std.specs.List.{filter_map}
use Rattle.pcrf_model.specs.Sessions.{gx}
use Rattle.site_join.specs.Groups.{group_at, group_of}
use Rattle.site_join.proofs.groups.add_gx.Given as goal

-- the groups so far, and those of the records that are left
abbrev pub invariant-loop-id : goal.invariant-loop-id
invariant-loop-id l = map group_of l.groups.items ++ filter_map (group_at gx) l.id-iterator
    ≡ map group_of l.initial.groups.items ++ filter_map (group_at gx) l.fn.records
