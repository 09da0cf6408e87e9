use Rattle.std.proofs.Common.{subst}
use Rattle.lattice_core.specs.Entries.{IsAscending}
use Rattle.lattice_core.proofs.Hashed.{ascending_entries}
use Rattle.lattice_core.proofs.tree.JoinTree.iter.Goals as goal

pub returns-clause-ascending : goal.returns-clause-ascending
returns-clause-ascending g c = subst (λ m. IsAscending g.K.Ord.cmp m) c.self.view_is (ascending_entries g.K.Ord.cmp g.K.PartialEq.eq g.met.K.Ord.total g.met.K.Ranked.same g.met.K.Ord.matches_eq _ _ c.self.invariant.0)
