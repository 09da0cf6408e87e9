use Rattle.std.proofs.Common.{ap}
use Rattle.lattice_core.proofs.Hashed.{inserted_after, inserted_keeps, back_same, back_keeps}
use Rattle.lattice_core.proofs.tree.JoinTree.insert.Goals as goal

pub invariant_of-self-in-Ok-insert : goal.invariant_of-self-in-Ok-insert
invariant_of-self-in-Ok-insert g c = inserted_keeps g.K.Ord.cmp g.K.PartialEq.eq g.met.K.Ord.total g.met.K.Ranked.same g.met.K.Ord.matches_eq _ _ _ _ _ _ c.self.invariant.0 c.self.view_is c.in-Ok.ensures c.in_default-insert.ensures.updates.0 _ _ c.in_default-insert.ensures.ordered c.in-Ok-insert.ensures.updates.0 g.V.Join.valid c.note_valid.ensures c.self.invariant.1

pub invariant_of-self-in-Err-insert : goal.invariant_of-self-in-Err-insert
invariant_of-self-in-Err-insert g c = back_keeps g.K.Ord.cmp g.K.PartialEq.eq g.met.K.Ord.total g.met.K.Ranked.same g.met.K.Ord.matches_eq _ _ _ _ _ _ c.self.invariant.0 c.self.view_is c.in-Ok.ensures c.in_default-insert.ensures.updates.0 _ _ _ c.requires.absent c.remove.ensures.ordered c.in-Err-insert.ensures.err (ap (λ p. p.0) c.in-Err-insert.ensures.value_returned) c.remove.ensures.updates.0 g.V.Join.valid c.self.invariant.1

pub returns-in-Ok-insert-clause-inserted : goal.returns-in-Ok-insert-clause-inserted
returns-in-Ok-insert-clause-inserted g c = inserted_after g.K.Ord.cmp g.K.PartialEq.eq g.met.K.Ord.total g.met.K.Ranked.same g.met.K.Ord.matches_eq _ _ _ _ _ _ c.self.invariant.0 c.self.view_is c.in-Ok.ensures c.in_default-insert.ensures.updates.0 _ _ c.in_default-insert.ensures.ordered c.in-Ok-insert.ensures.updates.0

pub returns-in-Err-insert-clause-unchanged : goal.returns-in-Err-insert-clause-unchanged
returns-in-Err-insert-clause-unchanged g c = back_same g.K.Ord.cmp g.K.PartialEq.eq g.met.K.Ord.total g.met.K.Ranked.same g.met.K.Ord.matches_eq _ _ _ _ _ _ c.self.invariant.0 c.self.view_is c.in-Ok.ensures c.in_default-insert.ensures.updates.0 _ _ _ c.requires.absent c.remove.ensures.ordered c.in-Err-insert.ensures.err (ap (λ p. p.0) c.in-Err-insert.ensures.value_returned) c.remove.ensures.updates.0
