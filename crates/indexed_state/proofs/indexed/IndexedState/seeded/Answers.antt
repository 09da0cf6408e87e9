use Rattle.std.proofs.Common.{true, sym, subst}
use Rattle.pcrf_model.specs.Holdings.{Holding}
use Rattle.pcrf_model.specs.Views.{view}
use Rattle.bind_index.specs.Index.{Covers}
use Rattle.indexed_state.proofs.Agreeing.{agree_anew, covers_nothing}
use Rattle.indexed_state.proofs.indexed.IndexedState.seeded.Goals as goal

pub invariant_of-result : goal.invariant_of-result
invariant_of-result c =
    agree_anew c.args.tables 0 c.seeded.result true c.seeded-2.result c.seeded-3.result c.seeded-4.result c.seeded-5.result
    (λ _. subst (λ (h : Holding). Covers (view h.facts) c.seeded-2.result) (sym c.seeded.ensures) (covers_nothing c.seeded-2.result))
    (record { stale = c.seeded-3.ensures; waits = c.seeded-4.ensures }) c.seeded-5.ensures
