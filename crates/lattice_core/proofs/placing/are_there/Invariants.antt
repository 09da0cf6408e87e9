use Rattle.std.proofs.Common.{length, map}
use Rattle.lattice_core.specs.Orders.{AreThere}
use Rattle.lattice_core.proofs.placing.are_there.Given as goal

-- all are there where all that are left are
abbrev pub invariant-each : goal.invariant-each
invariant-each g l =
    AreThere (map g.F.TypedFact.fact l.left) (map g.F.TypedFact.fact l.kept) → AreThere (map g.F.TypedFact.fact l.facts) (map g.F.TypedFact.fact l.kept)

abbrev pub decreases-each : goal.decreases-each
decreases-each g l = length l.left
