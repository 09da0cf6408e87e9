use Rattle.std.proofs.Common.{rules}
use Rattle.gx_profile.proofs.RuleLengths.{rule_within}
use Rattle.gx_profile.proofs.rules.put_rule_avps.Goals as goal

pub returns-clause-within : goal.returns-clause-within
returns-clause-within c = rule_within c.args.form c.args.rule.now (search rules) (search rules)
