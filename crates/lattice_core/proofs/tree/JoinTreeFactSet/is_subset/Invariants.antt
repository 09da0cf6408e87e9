use Rattle.std.proofs.Common.{◌≡◌}
use Rattle.lattice_core.specs.Subsets.{map_subset}
use Rattle.lattice_core.proofs.tree.JoinTreeFactSet.is_subset.Given as goal

abbrev pub invariant-loop-key : goal.invariant-loop-key
invariant-loop-key g l = map_subset g.K.Ord.cmp g.V.FactSet.subset g.V.FactSet.empty l.key-iterator l.other ≡ map_subset g.K.Ord.cmp g.V.FactSet.subset g.V.FactSet.empty l.self l.other
