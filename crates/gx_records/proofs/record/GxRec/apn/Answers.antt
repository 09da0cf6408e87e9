use Rattle.std.proofs.Common.{refl}
use Rattle.pcrf_values.specs.Places.{CalledStationId}
use Rattle.gx_records.proofs.record.GxRec.apn.Goals as goal

pub returns-in-Some-default-Apn : goal.returns-in-Some-default-Apn
returns-in-Some-default-Apn c = let said = rw c.in-Some-default-Apn.field-0-1-is at c.in-Some-default-Apn.ensures in said.shown CalledStationId refl
