use Rattle.pcrf_model.specs.Sessions.{gx}
use Rattle.site_join.specs.States.{record_facts}
use Rattle.indexed_state.proofs.Agreeing.{placed_differs}
use Rattle.indexed_state.proofs.indexed.IndexedState.put_gx.Goals as goal

pub invariant_of-self-2 : goal.invariant_of-self-2
invariant_of-self-2 c =
    c.follow.ensures c.self.inside.tables c.self.inside.site c.self.inside.state
    (placed_differs c.self.inside.state c.put_gx.new.self (gx c.args.id.now) (record_facts c.args.given) c.args.clock c.in_ok-stood.ensures.placed)
    c.in_ok-stood.ensures.stood c.self.invariant
