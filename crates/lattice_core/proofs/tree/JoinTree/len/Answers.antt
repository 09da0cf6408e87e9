use Rattle.std.proofs.Common.{length, ap, sym, ◌∙◌}
use Rattle.lattice_core.proofs.Hashed.{length_entries}
use Rattle.lattice_core.proofs.tree.JoinTree.len.Goals as goal

pub returns : goal.returns
returns g c = c.len.ensures.len ∙ sym (length_entries g.K.Ord.cmp g.K.PartialEq.eq g.met.K.Ord.total g.met.K.Ranked.same g.met.K.Ord.matches_eq _ _ c.self.invariant.0) ∙ ap length c.self.view_is
