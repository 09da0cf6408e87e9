use Rattle.site_core.proofs.OwnRealms.{own_form_serves_every_realm}
use Rattle.site_core.proofs.law.own_form_serves_every_realm.Goals as goal

pub returns : goal.returns
returns c = own_form_serves_every_realm
