use Rattle.lattice_core.proofs.PlacedValues.{value_placed}
use Rattle.lattice_core.proofs.laws.value_after_place_at.Goals as goal

pub returns : goal.returns
returns g c = value_placed g.K.Ord.cmp g.met.K.Ord.total c.args.key.now c.args.map.now c.args.value.now c.args.asked.now c.note_valid.ensures.0
