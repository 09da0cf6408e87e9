use Rattle.std.proofs.Common.{◌≡◌}
use Rattle.lattice_core.specs.Subsets.{map_empty}
use Rattle.lattice_core.proofs.tree.JoinTreeFactSet.is_empty.Given as goal

abbrev pub invariant-loop-value : goal.invariant-loop-value
invariant-loop-value g l = map_empty g.V.FactSet.empty l.value-iterator ≡ map_empty g.V.FactSet.empty l.self
