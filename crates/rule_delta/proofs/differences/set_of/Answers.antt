use Rattle.std.proofs.Common.{true, cond, ap, ◌∙◌, arith}
use Rattle.std.specs.Ordering.{is_eq}
use Rattle.pcrf_values.specs.Orders.{text_cmp}
use Rattle.rule_delta.proofs.Steps.{any_more}
use Rattle.rule_delta.proofs.differences.set_of.Goals as goal

pub loop-name-preserved : goal.loop-name-preserved
loop-name-preserved c = λ n.
    c.in_ok-insert.ensures.updates.0 (record { ref_ptr = c.args.names.ref_ptr; now = n })
    ∙ ap (λ b. cond (is_eq (text_cmp c.name-item.result n)) true b) (c.loop-name.invariant n)
    ∙ any_more (λ m. is_eq (text_cmp m n)) c.args.names.now c.loop-name.name-index c.name-item.result (omega arith) c.name-item.is
