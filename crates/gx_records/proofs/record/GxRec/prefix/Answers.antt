use Rattle.std.proofs.Common.{refl}
use Rattle.pcrf_values.specs.Places.{FramedIpv6Prefix}
use Rattle.gx_records.proofs.record.GxRec.prefix.Goals as goal

pub returns-in-Some-default-Prefix : goal.returns-in-Some-default-Prefix
returns-in-Some-default-Prefix c = let said = rw c.in-Some-default-Prefix.field-0-1-is at c.in-Some-default-Prefix.ensures in said.shown FramedIpv6Prefix refl
