use Rattle.indexed_state.proofs.Reading.{octets_same}
use Rattle.indexed_state.proofs.unsettling.is_same.Goals as goal

pub returns : goal.returns
returns c = λ h.
    let a = octets_same c.args.before.now.address c.args.after.now.address (c.same_address.ensures.0 c.if-not-same_address.false) in
    let p = c.same_prefix.ensures h in
    λ j. record { address = a j; prefix = p j }
