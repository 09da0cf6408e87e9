use Rattle.std.proofs.Common.{◌≡◌, true, length, map}
use Rattle.pcrf_values.specs.Sets.{In}
use Rattle.pcrf_values.specs.Facts.{Fact}
use Rattle.lattice_core.specs.Orders.{is_field}
use Rattle.lattice_core.proofs.placing.are_fields.Given as goal

-- all are fields where all that are left are
abbrev pub invariant-each : goal.invariant-each
invariant-each g l =
    ((f : Fact) → In f (map g.F.TypedFact.fact l.left) → is_field f ≡ true)
    → (f : Fact) → In f (map g.F.TypedFact.fact l.facts) → is_field f ≡ true

abbrev pub decreases-each : goal.decreases-each
decreases-each g l = length l.left
