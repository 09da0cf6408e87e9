use Rattle.std.proofs.Common.{refl}
use Rattle.pcrf_values.specs.Places.{OriginHost}
use Rattle.gx_records.proofs.record.GxRec.host.Goals as goal

pub returns-in-Some-default-Host : goal.returns-in-Some-default-Host
returns-in-Some-default-Host c = let said = rw c.in-Some-default-Host.field-0-1-is at c.in-Some-default-Host.ensures in said.shown OriginHost refl
