use Rattle.dia_base.proofs.StandardSpelling.{spells_both}
use Rattle.dia_base.proofs.standard.laws.avps_behind_are_spelled.Goals as goal

pub returns : goal.returns
returns c = spells_both
