use Rattle.lattice_core.proofs.SameLookups.{same_lookups}
use Rattle.lattice_core.proofs.laws.same_by_values.Goals as goal

pub returns : goal.returns
returns g c = same_lookups g.K.Ord.cmp g.met.K.Ord.total g.met.K.Ranked.same c.args.ours.now c.args.theirs.now c.note_valid.ensures.0 c.note_valid-2.ensures.0
