use Rattle.std.proofs.Common.{sym, ◌∙◌}
use Rattle.std.proofs.lemmas.Result.{on_ok_weaker}
use Rattle.pcc_rules.proofs.ByIndex.{no_prefix, all_networks_added, network_bound, none_bound}
use Rattle.pcc_rules.proofs.indexed_derivation.add_by_prefix.Goals as goal

pub returns-in_default : goal.returns-in_default
returns-in_default c = λ its all.
    no_prefix c.args.tables.now c.args.state.now.facts c.args.session.now c.args.gateway.now its c.args.found.now.items (sym c.in_default.ensures)

pub returns-then-spans_networks : goal.returns-then-spans_networks
returns-then-spans_networks c =
    on_ok_weaker c.add_in_all.result
    (λ h its all.
    all_networks_added c.args.tables.now c.args.state.now.facts c.args.session.now c.args.gateway.now its c.args.index.now all
    c.args.found.now.items c.add_in_all.new.found.items (h all))
    c.add_in_all.ensures

pub returns-in_default-calls_in : goal.returns-in_default-calls_in
returns-in_default-calls_in c = λ its all.
    none_bound c.args.tables.now c.args.state.now.facts c.args.session.now c.args.gateway.now its c.args.index.now all _ c.in-Some.prefix.now c.in-Some.ensures
    (sym c.spans_networks.ensures ∙ c.if-spans_networks.false) c.network_of.result c.args.found.now.items c.network_of.ensures c.in_default-calls_in.ensures

pub returns : goal.returns
returns c =
    on_ok_weaker c.add_unaddressed.result
    (λ h its all.
    network_bound c.args.tables.now c.args.state.now.facts c.args.session.now c.args.gateway.now its c.args.index.now all _ c.in-Some.prefix.now c.in-Some.ensures
    (sym c.spans_networks.ensures ∙ c.if-spans_networks.false) c.network_of.result c.in-Some-calls_in.calls.now
    c.args.found.now.items c.add_unaddressed.new.found.items c.network_of.ensures c.in-Some-calls_in.ensures (h all))
    c.add_unaddressed.ensures
