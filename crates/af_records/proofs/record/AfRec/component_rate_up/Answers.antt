use Rattle.std.proofs.Common.{refl}
use Rattle.pcrf_values.specs.Places.{ComponentRateUp}
use Rattle.af_records.proofs.record.AfRec.component_rate_up.Goals as goal

pub returns-in-Some-default-RateUp : goal.returns-in-Some-default-RateUp
returns-in-Some-default-RateUp c = let said = rw c.in-Some-default-RateUp.field-0-1-is at c.in-Some-default-RateUp.ensures in said.shown ComponentRateUp refl
