use Rattle.pcrf_values.specs.Limits.{delta_limit}
use Rattle.pcrf_model.proofs.Firsts.{first_is_short}
use Rattle.pcrf_model.proofs.entries.FirstEntries.of.Goals as goal

-- src/entries.rt:36:5
pub invariant_of-result : goal.invariant_of-result
invariant_of-result c = rw (c.first.ensures.removed, c.first.ensures.installed) (first_is_short delta_limit c.args.delta)
