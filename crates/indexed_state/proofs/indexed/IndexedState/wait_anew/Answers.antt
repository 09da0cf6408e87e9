use Rattle.indexed_state.proofs.Ending.{agree_waiting_anew}
use Rattle.indexed_state.proofs.indexed.IndexedState.wait_anew.Goals as goal

pub invariant_of-self : goal.invariant_of-self
invariant_of-self c =
    agree_waiting_anew c.self.inside.tables c.self.inside.site c.self.inside.state c.self.inside.is_whole c.self.inside.index c.self.inside.rules c.self.inside.waiting c.self.inside.aborts c.seeded.result c.seeded-2.result
    c.seeded.ensures c.seeded-2.ensures c.self.invariant
