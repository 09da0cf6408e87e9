use Rattle.std.proofs.Common.{ap, ◌∙◌}
use Rattle.std.specs.Ordering.{is_eq}
use Rattle.std.proofs.lemmas.Map.Text.{is_eq-slice_cmp}
use Rattle.pcrf_values.proofs.order.equal_bytes.Goals as goal

pub returns-then-left-right : goal.returns-then-left-right
returns-then-left-right c = c.is_eq.ensures ∙ ap is_eq c.compare_bytes.ensures ∙ is_eq-slice_cmp c.args.left.now c.args.right.now
