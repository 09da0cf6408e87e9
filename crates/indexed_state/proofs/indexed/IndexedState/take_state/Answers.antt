use Rattle.std.proofs.Common.{true}
use Rattle.indexed_state.proofs.Agreeing.{agree_anew}
use Rattle.indexed_state.proofs.indexed.IndexedState.take_state.Goals as goal

pub invariant_of-self : goal.invariant_of-self
invariant_of-self c =
    agree_anew c.self.inside.tables c.self.inside.site c.in_ok-merged.merged true c.in_ok-self-inside.field-0 c.touch_all.new.self c.seeded.result c.seeded-2.result
    (λ _. c.in_ok-self-inside.ensures) (record { stale = c.touch_all.ensures; waits = c.seeded.ensures }) c.seeded-2.ensures
