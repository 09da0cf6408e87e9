use Rattle.std.proofs.Common.{not, ◌+◌, ◌++◌, ◌∷◌, [], take, filter, ap, sym, ◌∙◌, arith}
use Rattle.std.specs.BTreeSet.{contains_by}
use Rattle.pcrf_values.specs.Orders.{pair_cmp, text_cmp}
use Rattle.pcrf_values.specs.RuleValues.{RuleValue, rule_cmp}
use Rattle.pcrf_model.specs.Differences.{holds}
use Rattle.rule_delta.proofs.Steps.{taken_more, kept_more, left_more}
use Rattle.rule_delta.proofs.differences.new_rules.Goals as goal
use Rattle.rule_delta.proofs.differences.new_rules.Goals.{then-not-contains+in_ok-copy+in_ok-push, else-not-contains}

pub loop-rule-preserved : goal.loop-rule-preserved
loop-rule-preserved c =
    let rule = c.rule-item.result in
    let is_new = λ (r : RuleValue). not (holds c.args.told.now r) in
    let rules = c.args.rules.now in
    let i = c.loop-rule.rule-index in
    let before = take i rules in
    let after = take (i + 1) rules in
    let more = taken_more rules i rule (omega arith) c.rule-item.is in
    let asked =
    sym (c.in_ok-pairs.ensures rule)
    ∙ ap (λ n. contains_by (λ k. pair_cmp text_cmp rule_cmp (n, rule) (k.0.now, k.1.now)) c.in_ok-pairs.pairs) (sym c.name.ensures)
    ∙ sym c.contains.ensures in
    elim c.if-not-contains.branch [
      | then-not-contains+in_ok-copy+in_ok-push w ↦
          ap (λ v. v.items) w.installed-is
          ∙ w.in_ok-push.ensures.items
          ∙ ap (λ l. l ++ w.in_ok-copy.copy ∷ []) c.loop-rule.invariant
          ∙ ap (λ r. filter is_new before ++ r ∷ []) w.in_ok-copy.ensures
          ∙ kept_more is_new before after rule more (ap not (asked ∙ w.if-not-contains.true))
      | else-not-contains w ↦
          ap (λ v. v.items) w.installed-is
          ∙ c.loop-rule.invariant
          ∙ left_more is_new before after rule more (ap not (asked ∙ w.if-not-contains.false))
    ]
