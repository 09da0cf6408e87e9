use Rattle.indexed_state.proofs.reached.gateway_reached.Goals as goal

pub returns : goal.returns
returns c = c.gateway_reached_in.ensures c.args.state.now.facts c.args.id.now c.gx.ensures
