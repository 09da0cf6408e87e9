use Rattle.pcrf_model.proofs.RetellingLaws.{leaves_all_rules, changes_nothing_else, retells_once, is_agreed}
use Rattle.pcrf_model.proofs.laws.retelling_leaves_all_rules_to_be_told.Goals as goal

pub returns : goal.returns
returns c = record { whole = leaves_all_rules; alone = changes_nothing_else; once = retells_once; agreed = is_agreed }
