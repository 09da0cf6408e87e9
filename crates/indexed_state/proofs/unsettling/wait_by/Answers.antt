use Rattle.std.proofs.Common.{Option, sym, ◌∙◌, subst}
use Rattle.pcrf_model.specs.Views.{view}
use Rattle.pcrf_values.specs.Prefixes.{Ipv6Prefix}
use Rattle.bind_index.proofs.CoveredNetworks.{network_of_all}
use Rattle.rule_delta.proofs.Waited.{keeps_itself, keeps_through}
use Rattle.indexed_state.specs.Indexed.{WaitsBy}
use Rattle.indexed_state.proofs.Near.{none_waits, all_waits, both_wait}
use Rattle.indexed_state.proofs.unsettling.wait_by.Goals as goal

pub returns-in_default-clause-keeps : goal.returns-in_default-clause-keeps
returns-in_default-clause-keeps c = keeps_itself c.args.waiting.now

pub returns-in_default-clause-waits : goal.returns-in_default-clause-waits
returns-in_default-clause-waits c = subst (λ (o : Option Ipv6Prefix). WaitsBy (view c.args.state.now.facts) c.args.index.now c.args.waiting.now o) (sym c.in_default.is)
    (none_waits (view c.args.state.now.facts) c.args.index.now c.args.waiting.now)

pub returns-then-spans_networks-clause-waits : goal.returns-then-spans_networks-clause-waits
returns-then-spans_networks-clause-waits c = subst (λ (o : Option Ipv6Prefix). WaitsBy (view c.args.state.now.facts) c.args.index.now c.wait_in.new.waiting o) (sym c.in-Some.is)
    (all_waits (view c.args.state.now.facts) c.args.index.now c.wait_in.new.waiting c.in-Some.prefix c.all_networks.result c.all_networks.ensures
    (network_of_all c.in-Some.prefix (sym c.spans_networks.ensures ∙ c.if-spans_networks.true)) c.wait_in.ensures.waits)

pub returns-clause-keeps : goal.returns-clause-keeps
returns-clause-keeps c = keeps_through c.args.waiting.now c.wait_in.new.waiting c.wait_in-2.new.waiting c.wait_in.ensures.keeps c.wait_in-2.ensures.keeps

pub returns-clause-waits : goal.returns-clause-waits
returns-clause-waits c = subst (λ (o : Option Ipv6Prefix). WaitsBy (view c.args.state.now.facts) c.args.index.now c.wait_in-2.new.waiting o) (sym c.in-Some.is)
    (both_wait (view c.args.state.now.facts) c.args.index.now c.wait_in.new.waiting c.wait_in-2.new.waiting c.in-Some.prefix c.all_networks.result c.network_of.result c.all_networks.ensures c.network_of.ensures
    c.wait_in.ensures.waits c.wait_in-2.ensures.keeps c.wait_in-2.ensures.waits)
