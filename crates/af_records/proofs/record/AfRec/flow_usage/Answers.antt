use Rattle.std.proofs.Common.{refl}
use Rattle.pcrf_values.specs.Places.{FlowUsage}
use Rattle.af_records.proofs.record.AfRec.flow_usage.Goals as goal

pub returns-in-Some-default-Usage : goal.returns-in-Some-default-Usage
returns-in-Some-default-Usage c = let said = rw c.in-Some-default-Usage.field-0-1-is at c.in-Some-default-Usage.ensures in said.shown FlowUsage refl
