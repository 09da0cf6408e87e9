use Rattle.std.proofs.Common.{refl}
use Rattle.pcrf_values.specs.Places.{RequestType}
use Rattle.af_records.proofs.record.AfRec.last.Goals as goal

pub returns-in-Some-default-Last : goal.returns-in-Some-default-Last
returns-in-Some-default-Last c = let said = rw c.in-Some-default-Last.field-0-1-is at c.in-Some-default-Last.ensures in said.shown RequestType refl
