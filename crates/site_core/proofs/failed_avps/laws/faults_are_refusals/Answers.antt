use Rattle.site_core.proofs.RefusalsOfFaults.{faults_are_refusals}
use Rattle.site_core.proofs.failed_avps.laws.faults_are_refusals.Goals as goal

pub returns : goal.returns
returns c = faults_are_refusals
