use Rattle.std.proofs.Common.{not, ◌&&◌, sym, ap, ◌∙◌}
use Rattle.std.specs.List.{list_any}
use Rattle.rule_delta.specs.ToldAll.{tell}
use Rattle.rule_delta.proofs.AllTold.{all_told}
use Rattle.rule_delta.proofs.told_all.is_told_all.Goals as goal

pub returns-then-not-lacks_a_rule : goal.returns-then-not-lacks_a_rule
returns-then-not-lacks_a_rule c =
    let facts = c.told_facts-facts.result.now in
    let rules = c.args.rules.now in
    ap not c.lacks_a_fact.ensures
    ∙ sym (ap (λ b. not b && not (list_any (λ r. not (tell facts r)) rules)) (sym c.lacks_a_rule.ensures ∙ c.if-not-lacks_a_rule.true))
    ∙ all_told c.args.known.now facts rules c.told_facts-facts.ensures

pub returns-else-not-lacks_a_rule : goal.returns-else-not-lacks_a_rule
returns-else-not-lacks_a_rule c =
    let facts = c.told_facts-facts.result.now in
    let rules = c.args.rules.now in
    ap not c.if-not-lacks_a_rule.false
    ∙ sym (ap (λ b. not b && not (list_any (λ r. not (tell facts r)) rules)) (sym c.lacks_a_rule.ensures ∙ c.if-not-lacks_a_rule.false))
    ∙ all_told c.args.known.now facts rules c.told_facts-facts.ensures
