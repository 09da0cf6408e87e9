use Rattle.std.proofs.Common.{◌≡◌, ◌++◌, map, take}
use Rattle.std.specs.List.{flat_map}
use Rattle.site_join.specs.Groups.{group_of}
use Rattle.peer_exchange.specs.Spelling.{held_group_bytes}
use Rattle.peer_exchange.proofs.writing.put_groups.Given as goal

abbrev pub invariant-loop-group : goal.invariant-loop-group
invariant-loop-group l = l.out.items ≡ l.initial.out.items ++ flat_map held_group_bytes (map group_of (take l.group-index l.groups))
