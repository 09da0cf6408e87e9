use Rattle.dia_codec.proofs.Drafts.{can_close, closes}
use Rattle.gx_profile.proofs.rules.put_bearer.Goals as goal

pub close-requires : goal.close-requires
close-requires c = can_close c.in_ok-mark.ensures.opened c.in_ok-put_bearer_avps.ensures

pub returns : goal.returns
returns c = closes c.in_ok-mark.ensures.opened c.in_ok-put_bearer_avps.ensures c.close.ensures
