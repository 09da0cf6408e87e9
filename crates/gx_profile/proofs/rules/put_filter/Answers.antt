use Rattle.dia_codec.proofs.Drafts.{can_close, closes}
use Rattle.gx_profile.proofs.RuleLengths.{filter_within}
use Rattle.gx_profile.proofs.rules.put_filter.Goals as goal

pub close-requires : goal.close-requires
close-requires c = can_close c.in_ok-mark.ensures.opened c.in_ok-put_description.ensures.added

pub returns-clause-added : goal.returns-clause-added
returns-clause-added c = closes c.in_ok-mark.ensures.opened c.in_ok-put_description.ensures.added c.close.ensures

pub returns-clause-within : goal.returns-clause-within
returns-clause-within c = filter_within c.args.form c.args.filter.now c.in_ok-put_description.ensures.within
