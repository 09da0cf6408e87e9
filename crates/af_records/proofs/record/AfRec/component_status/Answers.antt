use Rattle.std.proofs.Common.{refl}
use Rattle.pcrf_values.specs.Places.{ComponentStatus}
use Rattle.af_records.proofs.record.AfRec.component_status.Goals as goal

pub returns-in-Some-default-Status : goal.returns-in-Some-default-Status
returns-in-Some-default-Status c = let said = rw c.in-Some-default-Status.field-0-1-is at c.in-Some-default-Status.ensures in said.shown ComponentStatus refl
