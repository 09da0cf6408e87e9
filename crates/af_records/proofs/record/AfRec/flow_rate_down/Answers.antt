use Rattle.std.proofs.Common.{refl}
use Rattle.pcrf_values.specs.Places.{FlowRateDown}
use Rattle.af_records.proofs.record.AfRec.flow_rate_down.Goals as goal

pub returns-in-Some-default-RateDown : goal.returns-in-Some-default-RateDown
returns-in-Some-default-RateDown c = let said = rw c.in-Some-default-RateDown.field-0-1-is at c.in-Some-default-RateDown.ensures in said.shown FlowRateDown refl
