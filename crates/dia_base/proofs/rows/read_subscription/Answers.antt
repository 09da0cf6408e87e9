use Rattle.std.proofs.Common.{[], ◌∷◌}
use Rattle.std.proofs.lemmas.Result.{err_from_is_err_and}
use Rattle.pcrf_values.specs.Limits.{subscription_data_limit}
use Rattle.dia_base.specs.Avps.{subscription_id_data}
use Rattle.dia_base.specs.Rows.{required, text_to}
use Rattle.dia_base.specs.Subscriptions.{subscription_type_row}
use Rattle.dia_base.proofs.rows.read_subscription.Goals as goal

pub returns-in_err-avps-clause-refused : goal.returns-in_err-avps-clause-refused
returns-in_err-avps-clause-refused c =
    let p = err_from_is_err_and c.from_residual.result c.from_residual.ensures.1 in
    rw (p.1, p.2) (c.in_err-avps.ensures.refused (subscription_type_row ∷ required subscription_id_data (text_to subscription_data_limit) ∷ []))
