use Rattle.std.proofs.Common.{refl}
use Rattle.pcrf_values.specs.Places.{FramedIpAddress}
use Rattle.af_records.proofs.record.AfRec.address.Goals as goal

pub returns-in-Some-default-Address : goal.returns-in-Some-default-Address
returns-in-Some-default-Address c = let said = rw c.in-Some-default-Address.field-0-1-is at c.in-Some-default-Address.ensures in said.shown FramedIpAddress refl
