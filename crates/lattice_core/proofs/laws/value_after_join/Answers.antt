use Rattle.lattice_core.proofs.Lookups.{value_joined}
use Rattle.lattice_core.proofs.laws.value_after_join.Goals as goal

pub returns : goal.returns
returns g c = value_joined g.K.Ord.cmp g.V.Join.joined g.met.K.Ord.total c.args.ours.now c.args.theirs.now c.args.asked.now c.note_valid.ensures.0 c.note_valid-2.ensures.0
