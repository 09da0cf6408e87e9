use Rattle.lattice_core.proofs.PutBack.{put_back}
use Rattle.lattice_core.proofs.laws.place_back.Goals as goal

pub returns : goal.returns
returns g c = put_back g.K.Ord.cmp g.met.K.Ord.total g.met.K.Ranked.same c.args.key.now c.args.map.now c.args.value.now c.note_valid.ensures.0
