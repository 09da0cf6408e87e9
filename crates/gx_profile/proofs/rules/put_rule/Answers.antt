use Rattle.dia_codec.proofs.Drafts.{can_close, closes}
use Rattle.gx_profile.proofs.RuleLengths.{definition_within}
use Rattle.gx_profile.proofs.rules.put_rule.Goals as goal

pub close-requires : goal.close-requires
close-requires c = can_close c.in_ok-mark.ensures.opened c.in_ok-put_rule_avps.ensures.added

pub returns-clause-added : goal.returns-clause-added
returns-clause-added c = closes c.in_ok-mark.ensures.opened c.in_ok-put_rule_avps.ensures.added c.close.ensures

pub returns-clause-within : goal.returns-clause-within
returns-clause-within c = definition_within c.args.form c.args.rule.now c.in_ok-put_rule_avps.ensures.within
