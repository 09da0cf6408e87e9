use Rattle.pcrf_model.proofs.ProvisionLaws.{provisioning-tells, pushing-tells}
use Rattle.pcrf_model.proofs.laws.gateway_lacks_what_the_first_entries_left.Goals as goal

pub returns : goal.returns
returns c = record { provisioning = provisioning-tells; pushing = pushing-tells }
