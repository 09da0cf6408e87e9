use Rattle.pcrf_model.proofs.AbortingLaws.{aborting_in_form}
use Rattle.pcrf_model.proofs.RetellingLaws.{retelling_in_form}
use Rattle.pcrf_model.proofs.ServedForms.{serving_in_form, pushing_in_form}
use Rattle.pcrf_model.proofs.laws.sites_add_operations_of_the_form.Goals as goal

pub returns : goal.returns
returns c = record { serving = serving_in_form; pushing = pushing_in_form; aborting = aborting_in_form; retelling = retelling_in_form }
