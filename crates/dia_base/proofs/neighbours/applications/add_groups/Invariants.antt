use Rattle.std.proofs.Common.{◌≡◌, ◌++◌, take}
use Rattle.std.specs.List.{flat_map}
use Rattle.dia_base.proofs.neighbours.applications.add_groups.Given as goal

-- those of the groups so far are there
abbrev pub invariant-loop-group : goal.invariant-loop-group
invariant-loop-group l = l.found.items ≡ l.fn.found.items ++ flat_map (λ g. g) (take l.group-index l.fn.groups)
