use Rattle.std.proofs.Common.{true, cond, ap, ◌∙◌, arith}
use Rattle.std.specs.Ordering.{is_eq}
use Rattle.pcrf_values.specs.Orders.{text_cmp}
use Rattle.pcrf_model.specs.Differences.{has_name}
use Rattle.std.specs.BTreeSet.{contains_by}
use Rattle.rule_delta.proofs.Steps.{any_more}
use Rattle.rule_delta.proofs.differences.names_of.Goals as goal

pub loop-rule-preserved : goal.loop-rule-preserved
loop-rule-preserved c = λ n.
    c.in_ok-insert.ensures.updates.0 (record { ref_ptr = c.name.result.ref_ptr; now = n })
    ∙ ap (λ m. cond (is_eq (text_cmp m n)) true (contains_by (λ k. text_cmp n k.now) c.loop-rule.names)) c.name.ensures
    ∙ ap (λ b. cond (has_name n c.rule-item.result) true b) (c.loop-rule.invariant n)
    ∙ any_more (has_name n) c.args.rules.now c.loop-rule.rule-index c.rule-item.result (omega arith) c.rule-item.is
