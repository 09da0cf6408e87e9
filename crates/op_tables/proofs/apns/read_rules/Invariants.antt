use Rattle.std.proofs.Common.{◌≡◌, [], map, take}
use Rattle.toml.specs.View.{view}
use Rattle.op_tables.specs.Judgement.{rule_fault, fault_of_rows}
use Rattle.op_tables.specs.declared.place.TableKey.TheVariants as key
use Rattle.op_tables.specs.Meaning.{rule_of}
use Rattle.op_tables.proofs.Faults.{left}
use Rattle.op_tables.proofs.apns.read_rules.Given as goal

-- the rules are those of the rows so far, and the fault of all rows is that of what is left
abbrev pub invariant-loop-above : goal.invariant-loop-above
invariant-loop-above l = record {
  read : l.rules.items ≡ map rule_of (map view (take l.above l.rows));
  judged : fault_of_rows key.Rule rule_fault [] (map view l.rows) ≡ left view key.Rule rule_fault l.rows l.above;
}
