use Rattle.std.proofs.Common.{not, ◌+◌, ◌++◌, ◌∷◌, [], take, filter, ap, sym, ◌∙◌, arith}
use Rattle.pcrf_values.specs.RuleValues.{RuleValue}
use Rattle.rule_delta.specs.ToldAll.{tell}
use Rattle.rule_delta.proofs.Steps.{taken_more, kept_more, left_more}
use Rattle.rule_delta.proofs.told_difference.rules_to_install.Goals as goal
use Rattle.rule_delta.proofs.told_difference.rules_to_install.Goals.{then-not-tell+in_ok-copy+in_ok-push, else-not-tell}

pub loop-rule-preserved : goal.loop-rule-preserved
loop-rule-preserved c =
    let rule = c.rule-item.result in
    let is_new = λ (r : RuleValue). not (tell c.args.facts.now r) in
    let rules = c.args.rules.now in
    let i = c.loop-rule.rule-index in
    let before = take i rules in
    let after = take (i + 1) rules in
    let more = taken_more rules i rule (omega arith) c.rule-item.is in
    let asked = sym c.tell.ensures in
    elim c.if-not-tell.branch [
      | then-not-tell+in_ok-copy+in_ok-push w ↦
          ap (λ v. v.items) w.installed-is
          ∙ w.in_ok-push.ensures.items
          ∙ ap (λ l. l ++ w.in_ok-copy.copy ∷ []) c.loop-rule.invariant
          ∙ ap (λ r. filter is_new before ++ r ∷ []) w.in_ok-copy.ensures
          ∙ kept_more is_new before after rule more (ap not (asked ∙ w.if-not-tell.true))
      | else-not-tell w ↦
          ap (λ v. v.items) w.installed-is
          ∙ c.loop-rule.invariant
          ∙ left_more is_new before after rule more (ap not (asked ∙ w.if-not-tell.false))
    ]
