use Rattle.std.proofs.Common.{refl}
use Rattle.pcrf_values.specs.Places.{MediaType}
use Rattle.af_records.proofs.record.AfRec.component_media_type.Goals as goal

pub returns-in-Some-default-MediaType : goal.returns-in-Some-default-MediaType
returns-in-Some-default-MediaType c = let said = rw c.in-Some-default-MediaType.field-0-1-is at c.in-Some-default-MediaType.ensures in said.shown MediaType refl
