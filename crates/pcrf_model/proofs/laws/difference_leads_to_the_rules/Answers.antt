use Rattle.pcrf_model.proofs.DifferenceLaws.{apply-difference, no_name_twice}
use Rattle.pcrf_model.proofs.RestOfEntries.{difference-first}
use Rattle.pcrf_model.proofs.DueLaws.{first_is_all}
use Rattle.pcrf_model.proofs.laws.difference_leads_to_the_rules.Goals as goal

pub returns : goal.returns
returns c = record { whole = apply-difference; apart = no_name_twice; first = difference-first; all = first_is_all }
