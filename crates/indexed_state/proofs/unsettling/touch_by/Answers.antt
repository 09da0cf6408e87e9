use Rattle.std.proofs.Common.{Option, sym, ◌∙◌, subst}
use Rattle.pcrf_values.specs.Prefixes.{Ipv6Prefix}
use Rattle.bind_index.proofs.CoveredNetworks.{network_of_all}
use Rattle.indexed_state.specs.Indexed.{TouchesBy}
use Rattle.indexed_state.proofs.Near.{none_touched, all_touched, both_touched}
use Rattle.indexed_state.proofs.unsettling.touch_by.Goals as goal

pub returns-in_default : goal.returns-in_default
returns-in_default c = subst (λ (o : Option Ipv6Prefix). TouchesBy c.args.rules.now c.args.rules.now c.args.index.now o) (sym c.in_default.is) (none_touched c.args.rules.now c.args.index.now)

pub returns-then-spans_networks : goal.returns-then-spans_networks
returns-then-spans_networks c = subst (λ (o : Option Ipv6Prefix). TouchesBy c.args.rules.now c.touch_in.new.self c.args.index.now o) (sym c.in-Some.is)
    (all_touched c.args.rules.now c.touch_in.new.self c.args.index.now c.in-Some.prefix c.all_networks.result c.all_networks.ensures
    (network_of_all c.in-Some.prefix (sym c.spans_networks.ensures ∙ c.if-spans_networks.true)) c.touch_in.ensures)

pub returns : goal.returns
returns c = subst (λ (o : Option Ipv6Prefix). TouchesBy c.args.rules.now c.touch_in-2.new.self c.args.index.now o) (sym c.in-Some.is)
    (both_touched c.args.rules.now c.touch_in.new.self c.touch_in-2.new.self c.args.index.now c.in-Some.prefix c.all_networks.result c.network_of.result c.all_networks.ensures c.network_of.ensures
    c.touch_in.ensures c.touch_in-2.ensures)
