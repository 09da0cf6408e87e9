use Rattle.dia_codec.proofs.Drafts.{can_close, closes}
use Rattle.gx_profile.proofs.rules.put_install.Goals as goal

pub close-requires : goal.close-requires
close-requires c = can_close c.in_ok-mark.ensures.opened c.in_ok-put_rules.ensures.added

pub returns-clause-added : goal.returns-clause-added
returns-clause-added c = closes c.in_ok-mark.ensures.opened c.in_ok-put_rules.ensures.added c.close.ensures
