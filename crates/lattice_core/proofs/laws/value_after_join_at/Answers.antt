use Rattle.lattice_core.proofs.Lookups.{value_put}
use Rattle.lattice_core.proofs.laws.value_after_join_at.Goals as goal

pub returns : goal.returns
returns g c = value_put g.K.Ord.cmp g.V.Join.joined g.met.K.Ord.total c.args.map.now c.args.key.now c.args.value.now c.args.asked.now c.note_valid.ensures.0
