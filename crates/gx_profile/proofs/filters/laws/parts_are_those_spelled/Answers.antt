use Rattle.std.proofs.Common.{◌∙◌, ap}
use Rattle.gx_profile.specs.Filters.{parts_of}
use Rattle.gx_profile.proofs.Spelling.{is_spelled, reads_back}
use Rattle.gx_profile.proofs.filters.laws.parts_are_those_spelled.Goals as goal

pub returns : goal.returns
returns c = λ text f. (is_spelled text f, λ s. ap parts_of s.spelling ∙ reads_back f s.rule)
