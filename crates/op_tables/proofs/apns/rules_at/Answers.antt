use Rattle.std.proofs.Common.{Option, subst, sym}
use Rattle.std.specs.Prelude.{IfErr}
use Rattle.op_tables.specs.declared.place.TableKey.TheVariants as key
use Rattle.op_tables.specs.Places.{rule_name_shape, rule_keys}
use Rattle.op_tables.specs.Judgement.{IsPlaced}
use Rattle.op_tables.specs.declared.fault.PlacedFault.{PlacedFault}
use Rattle.op_tables.proofs.apns.rules_at.Goals as goal

pub returns-clause-refused : goal.returns-clause-refused
returns-clause-refused c =
    subst (λ (f : Option PlacedFault). IfErr c.read_rules.result (λ fault. IsPlaced fault f)) (sym (c.in_ok-rows_at.ensures.judged key.Name rule_name_shape rule_keys)) c.read_rules.ensures.refused
