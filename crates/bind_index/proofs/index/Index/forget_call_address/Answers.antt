use Rattle.pcrf_model.specs.Sessions.{af}
use Rattle.bind_index.proofs.Forgotten.{address_forgotten}
use Rattle.bind_index.proofs.index.Index.forget_call_address.Goals as goal

pub returns-clause-address : goal.returns-clause-address
returns-clause-address c =
    address_forgotten c.args.self.now c.forget_call_at.new.self (af c.args.id.now) c.args.known.now _ c.in-Some.address.now
    c.in-Some.ensures c.forget_call_at.ensures.calls
