use Rattle.std.proofs.Common.{refl}
use Rattle.pcrf_values.specs.Places.{OriginRealm}
use Rattle.gx_records.proofs.record.GxRec.realm.Goals as goal

pub returns-in-Some-default-Realm : goal.returns-in-Some-default-Realm
returns-in-Some-default-Realm c = let said = rw c.in-Some-default-Realm.field-0-1-is at c.in-Some-default-Realm.ensures in said.shown OriginRealm refl
