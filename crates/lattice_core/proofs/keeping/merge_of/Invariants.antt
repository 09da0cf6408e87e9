use Rattle.std.proofs.Common.{◌≡◌, ◌+◌, ◌≤◌, map, length, ◌++◌}
use Rattle.std.specs.Vec.{vec_len, vec_capacity}
use Rattle.pcrf_values.specs.Held.{kept_list, join_of}
use Rattle.lattice_core.specs.Orders.{Climbs, Follow}
use Rattle.lattice_core.proofs.keeping.merge_of.Given as goal

-- what is kept and what is left give what both give, and the rest follows what is kept
abbrev pub invariant-least : goal.invariant-least
invariant-least g l = record {
  held : kept_list (map (λ f. g.F.TypedFact.fact f.now) l.kept.items) ≡ map (λ f. g.F.TypedFact.fact f.now) l.kept.items;
  joins : join_of (map (λ f. g.F.TypedFact.fact f.now) l.kept.items) (map g.F.TypedFact.fact l.ours ++ map g.F.TypedFact.fact l.theirs) ≡ join_of (map g.F.TypedFact.fact l.fn.ours) (map g.F.TypedFact.fact l.fn.theirs);
  follow : Follow (map (λ f. g.F.TypedFact.fact f.now) l.kept.items) (map g.F.TypedFact.fact l.ours ++ map g.F.TypedFact.fact l.theirs);
  ours : Climbs (map g.F.TypedFact.fact l.ours);
  theirs : Climbs (map g.F.TypedFact.fact l.theirs);
  room : vec_len l.kept + (length l.ours + length l.theirs) ≤ vec_capacity l.kept;
}

abbrev pub decreases-least : goal.decreases-least
decreases-least g l = length l.ours + length l.theirs
