use Rattle.op_tables.proofs.Apart.{names_rules_once}
use Rattle.op_tables.proofs.laws.names_of_rules_stand_apart.Goals as goal

pub returns : goal.returns
returns c = names_rules_once
