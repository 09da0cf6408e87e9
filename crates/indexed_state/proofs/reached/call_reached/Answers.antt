use Rattle.indexed_state.proofs.reached.call_reached.Goals as goal

pub returns : goal.returns
returns c = c.call_reached_in.ensures c.args.state.now.facts c.args.id.now c.af.ensures
