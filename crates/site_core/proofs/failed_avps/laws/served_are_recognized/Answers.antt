use Rattle.site_core.proofs.ServedRecognized.{served_are_recognized}
use Rattle.site_core.proofs.failed_avps.laws.served_are_recognized.Goals as goal

pub returns : goal.returns
returns c = served_are_recognized
