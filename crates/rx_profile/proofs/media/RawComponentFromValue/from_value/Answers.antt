use Rattle.std.proofs.lemmas.Result.{err_from_is_err_and}
use Rattle.rx_profile.specs.Media.{component_rows}
use Rattle.rx_profile.proofs.media.RawComponentFromValue.from_value.Goals as goal

pub returns-in_err-avps-clause-refused : goal.returns-in_err-avps-clause-refused
returns-in_err-avps-clause-refused c =
    let p = err_from_is_err_and c.from_residual.result c.from_residual.ensures.1 in
    rw (p.1, p.2) (c.in_err-avps.ensures.refused component_rows)
