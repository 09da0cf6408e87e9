use Rattle.std.proofs.Common.{◌≡◌, ◌+◌, ◌≤◌, ◌⊎◌, true, map}
use Rattle.std.specs.Vec.{vec_len, vec_capacity}
use Rattle.pcrf_values.specs.Sets.{In}
use Rattle.pcrf_values.specs.Facts.{Fact}
use Rattle.pcrf_values.specs.Held.{kept_list, join_of}
use Rattle.lattice_core.specs.Orders.{AreThere, is_field}
use Rattle.lattice_core.proofs.placing.put_all.Given as goal

-- what is kept and what is left give what all give
abbrev pub invariant-each : goal.invariant-each
invariant-each g l = record {
  held : kept_list (map g.F.TypedFact.fact l.kept.items) ≡ map g.F.TypedFact.fact l.kept.items;
  joins : join_of (map g.F.TypedFact.fact l.kept.items) (map g.F.TypedFact.fact l.left.items) ≡ join_of (map g.F.TypedFact.fact l.fn.kept.items) (map g.F.TypedFact.fact l.fn.fields.items);
  fields : (f : Fact) → In f (map g.F.TypedFact.fact l.left.items) → is_field f ≡ true;
  room : AreThere (map g.F.TypedFact.fact l.left.items) (map g.F.TypedFact.fact l.kept.items) ⊎ (vec_len l.kept + vec_len l.left ≤ vec_capacity l.kept);
}

abbrev pub decreases-each : goal.decreases-each
decreases-each g l = vec_len l.left
