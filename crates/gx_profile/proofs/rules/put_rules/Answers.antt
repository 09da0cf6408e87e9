use Rattle.std.proofs.Common.{◌≡◌, ◌≤◌, ◌*◌, ◌<◌, length, map, get_or, rules}
use Rattle.std.specs.List.{sum_by}
use Rattle.dia_codec.specs.Written.{padded_len}
use Rattle.gx_profile.specs.Lengths.{definition_room}
use Rattle.gx_profile.specs.Rules.{rule_avp}
use Rattle.gx_profile.proofs.RuleLengths.{one_more, one_more_within, all_added, all_within}
use Rattle.gx_profile.proofs.rules.put_rules.Goals as goal

pub loop-rule-preserved : goal.loop-rule-preserved
loop-rule-preserved c =
    let items = c.args.rules.now in
    let lt : c.loop-rule.rule-index < length items = search rules in
    let is : c.rule-item.result ≡ get_or items c.loop-rule.rule-index c.rule-item.result = search rules in
    record {
      so_far = one_more (rule_avp c.args.form) items _ c.rule-item.result lt is c.loop-rule.invariant.so_far c.in_ok-put_rule.ensures.added;
      within = one_more_within (rule_avp c.args.form) items _ c.rule-item.result definition_room lt is c.loop-rule.invariant.within c.in_ok-put_rule.ensures.within;
    }

pub returns-clause-added : goal.returns-clause-added
returns-clause-added c = all_added (rule_avp c.args.form) c.args.rules.now c.loop-rule.rule-index c.loop-rule-test.false c.loop-rule.invariant.so_far

pub returns-clause-within : goal.returns-clause-within
returns-clause-within c = all_within (rule_avp c.args.form) c.args.rules.now c.loop-rule.rule-index definition_room c.loop-rule-test.false c.loop-rule.auto.rule-index-end c.loop-rule.invariant.within
