use Rattle.std.proofs.Common.{refl}
use Rattle.pcrf_values.specs.Places.{FlowDescriptions}
use Rattle.af_records.proofs.record.AfRec.flow_descriptions.Goals as goal

pub returns-in-Some-default-Descriptions : goal.returns-in-Some-default-Descriptions
returns-in-Some-default-Descriptions c = let said = rw c.in-Some-default-Descriptions.field-0-1-is at c.in-Some-default-Descriptions.ensures in said.shown FlowDescriptions refl
