use Rattle.pcrf_model.proofs.FormLaws.{union_in_form, kept_in_form, operations_in_form}
use Rattle.pcrf_model.proofs.laws.holdings_keep_their_form.Goals as goal

pub returns : goal.returns
returns c = record { union = union_in_form; kept = kept_in_form; operations = operations_in_form }
