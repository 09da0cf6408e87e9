use Rattle.std.proofs.Common.{◌≡◌, ◌+◌, ◌≤◌, map, ◌++◌}
use Rattle.std.specs.VecDeque.{deque_len}
use Rattle.std.specs.Vec.{vec_len, vec_capacity}
use Rattle.pcrf_values.specs.Held.{kept_list, join_of}
use Rattle.lattice_core.specs.Orders.{Climbs, Follow}
use Rattle.lattice_core.proofs.keeping.merge.Given as goal

-- what is kept and what is left give what both give, and the rest follows what is kept
abbrev pub invariant-least : goal.invariant-least
invariant-least g l = record {
  held : kept_list (map g.F.TypedFact.fact l.kept.items) ≡ map g.F.TypedFact.fact l.kept.items;
  joins : join_of (map g.F.TypedFact.fact l.kept.items) (map g.F.TypedFact.fact l.ours.items ++ map g.F.TypedFact.fact l.theirs.items) ≡ join_of (map g.F.TypedFact.fact l.fn.ours.items) (map g.F.TypedFact.fact l.fn.theirs.items);
  follow : Follow (map g.F.TypedFact.fact l.kept.items) (map g.F.TypedFact.fact l.ours.items ++ map g.F.TypedFact.fact l.theirs.items);
  ours : Climbs (map g.F.TypedFact.fact l.ours.items);
  theirs : Climbs (map g.F.TypedFact.fact l.theirs.items);
  room : vec_len l.kept + (deque_len l.ours + deque_len l.theirs) ≤ vec_capacity l.kept;
}

abbrev pub decreases-least : goal.decreases-least
decreases-least g l = deque_len l.ours + deque_len l.theirs
