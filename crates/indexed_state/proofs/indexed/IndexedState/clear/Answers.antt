use Rattle.std.proofs.Common.{true, sym, subst}
use Rattle.pcrf_model.specs.Holdings.{Holding}
use Rattle.pcrf_model.specs.Views.{view}
use Rattle.bind_index.specs.Index.{Covers}
use Rattle.indexed_state.proofs.Agreeing.{agree_anew, covers_nothing}
use Rattle.indexed_state.proofs.indexed.IndexedState.clear.Goals as goal

pub invariant_of-self : goal.invariant_of-self
invariant_of-self c =
    agree_anew c.self.inside.tables c.self.inside.site c.seeded.result true c.seeded-2.result c.touch_all.new.self c.seeded-3.result c.seeded-4.result
    (λ _. subst (λ (h : Holding). Covers (view h.facts) c.seeded-2.result) (sym c.seeded.ensures) (covers_nothing c.seeded-2.result))
    (record { stale = c.touch_all.ensures; waits = c.seeded-3.ensures }) c.seeded-4.ensures
