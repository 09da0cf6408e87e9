use Rattle.pcrf_model.proofs.FormReading.{flows_fit}
use Rattle.pcrf_model.proofs.RuleNames.{rules-names_differ}
use Rattle.pcrf_model.proofs.laws.names_of_rules_differ.Goals as goal

pub returns : goal.returns
returns c = λ t h s rows form. rules-names_differ t h.facts s rows (flows_fit h form)
