use Rattle.std.proofs.Common.{refl}
use Rattle.pcrf_values.specs.Places.{SubscriptionIds}
use Rattle.gx_records.proofs.record.GxRec.subscribers.Goals as goal

pub returns-in-Some-default-Subscribers : goal.returns-in-Some-default-Subscribers
returns-in-Some-default-Subscribers c = let said = rw c.in-Some-default-Subscribers.field-0-1-is at c.in-Some-default-Subscribers.ensures in said.shown SubscriptionIds refl
