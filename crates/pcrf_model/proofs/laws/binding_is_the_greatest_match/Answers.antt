use Rattle.pcrf_model.proofs.BindLaws.{bind-greatest, bind-none}
use Rattle.pcrf_model.proofs.laws.binding_is_the_greatest_match.Goals as goal

pub returns : goal.returns
returns c = record { greatest = bind-greatest; none = bind-none }
