use Rattle.pcrf_model.specs.Sessions.{af}
use Rattle.bind_index.proofs.Forgotten.{network_forgotten, no_network_forgotten, shows_no_network}
use Rattle.bind_index.proofs.index.Index.forget_call_network.Goals as goal

pub returns-in_default-clause-network : goal.returns-in_default-clause-network
returns-in_default-clause-network c = no_network_forgotten c.args.self.now (af c.args.id.now) c.args.known.now c.in_default.ensures

pub returns-clause-network : goal.returns-clause-network
returns-clause-network c =
    network_forgotten c.args.self.now c.forget_call_in.new.self (af c.args.id.now) c.args.known.now _ c.in-Some.prefix.now c.network_of.result
    c.in-Some.ensures c.network_of.ensures c.forget_call_in.ensures.calls

pub returns-clause-covers : goal.returns-clause-covers
returns-clause-covers c = λ v none h. c.forget_call_in.ensures.covers v (shows_no_network v (af c.args.id.now) c.network_of.result none) h
