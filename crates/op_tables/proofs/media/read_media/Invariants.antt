use Rattle.std.proofs.Common.{◌≡◌, [], map, take}
use Rattle.toml.specs.View.{view}
use Rattle.op_tables.specs.Judgement.{media_fault, fault_of_rows}
use Rattle.op_tables.specs.declared.place.TableKey.TheVariants as key
use Rattle.op_tables.specs.Meaning.{media_of}
use Rattle.op_tables.proofs.Faults.{left}
use Rattle.op_tables.proofs.media.read_media.Given as goal

-- the classes are those of the rows so far, and the fault of all rows is that of what is left
abbrev pub invariant-loop-above : goal.invariant-loop-above
invariant-loop-above l = record {
  read : l.media.entries ≡ media_of (map view (take l.above l.rows));
  judged : fault_of_rows key.Media media_fault [] (map view l.rows) ≡ left view key.Media media_fault l.rows l.above;
}
