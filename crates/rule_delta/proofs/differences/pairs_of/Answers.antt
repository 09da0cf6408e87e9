use Rattle.std.proofs.Common.{true, cond, ◌&&◌, ap, ◌∙◌, arith}
use Rattle.std.specs.Ordering.{is_eq}
use Rattle.std.specs.BTreeSet.{contains_by}
use Rattle.pcrf_values.specs.Orders.{pair_cmp, text_cmp}
use Rattle.pcrf_values.specs.RuleValues.{rule_cmp}
use Rattle.rule_delta.proofs.Steps.{any_more, both_equal}
use Rattle.rule_delta.proofs.differences.pairs_of.Goals as goal

pub loop-name-preserved : goal.loop-name-preserved
loop-name-preserved c = λ r.
    let item = c.loop-name-item.result in
    let before = contains_by (λ k. pair_cmp text_cmp rule_cmp (r.name, r) (k.0.now, k.1.now)) c.loop-name.pairs in
    c.in_ok-insert.ensures.updates.0 (record { ref_ptr = c.args.told.ref_ptr; now = r.name }, record { ref_ptr = c.args.told.ref_ptr; now = r })
    ∙ ap (λ b. cond b true before) (both_equal (text_cmp item.0 r.name) (rule_cmp item.1 r))
    ∙ ap (λ b. cond (is_eq (text_cmp item.0 r.name) && is_eq (rule_cmp item.1 r)) true b) (c.loop-name.invariant r)
    ∙ any_more (λ p. is_eq (text_cmp p.0 r.name) && is_eq (rule_cmp p.1 r)) c.args.told.now c.loop-name.name-index item (omega arith) c.loop-name-item.is
