use Rattle.std.proofs.Common.{Option, sym, subst}
use Rattle.std.specs.declared.net.ipv4_addr.Ipv4Addr.{Ipv4Addr}
use Rattle.indexed_state.specs.Indexed.{TouchesAt}
use Rattle.indexed_state.proofs.Reading.{nowhere, touched}
use Rattle.indexed_state.proofs.unsettling.touch_at.Goals as goal

pub returns-in_default : goal.returns-in_default
returns-in_default c = subst (λ (o : Option Ipv4Addr). TouchesAt c.args.rules.now c.args.rules.now c.args.index.now o) (sym c.in_default.is) (nowhere c.args.rules.now c.args.index.now)

pub returns : goal.returns
returns c = subst (λ (o : Option Ipv4Addr). TouchesAt c.args.rules.now c.touch.new.self c.args.index.now o) (sym c.in-Some.is)
    (touched c.args.rules.now c.touch.new.self c.args.index.now c.in-Some.address c.touch.ensures)
