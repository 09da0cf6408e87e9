use Rattle.std.proofs.Common.{sym, subst}
use Rattle.std.proofs.lemmas.Result.{on_ok_weaker}
use Rattle.pcrf_model.specs.Sessions.{Af}
use Rattle.pcrf_values.specs.Prefixes.{Ipv6Prefix, prefix_cmp}
use Rattle.pcrf_values.specs.Sets.{In}
use Rattle.bind_index.specs.Index.{IndexValue, Grows, listed_in}
use Rattle.bind_index.proofs.Covering.{call_networks_grow, network_itself, result_grows, list_has}
use Rattle.bind_index.proofs.index.Index.add_prefixed_call.Goals as goal

pub returns-clause-grows : goal.returns-clause-grows
returns-clause-grows c =
    let i : IndexValue = record { gateways = c.self.inside.gateways; calls = c.self.inside.calls; subscribed = c.self.inside.subscribed; gateway_networks = c.self.inside.gateway_networks; call_networks = c.self.inside.call_networks } in
    subst (λ (m : IndexValue). Grows m (record i { call_networks = c.add.new.self })) c.self.view_is
    (call_networks_grow i c.add.new.self (result_grows prefix_cmp c.self.inside.call_networks c.add.new.self c.network_of.result c.args.id.now c.add.result c.add.ensures.added c.add.ensures.unchanged))

pub returns-clause-lists : goal.returns-clause-lists
returns-clause-lists c =
    let i : IndexValue = record { gateways = c.self.inside.gateways; calls = c.self.inside.calls; subscribed = c.self.inside.subscribed; gateway_networks = c.self.inside.gateway_networks; call_networks = c.self.inside.call_networks } in
    on_ok_weaker c.add.result
    (λ added. subst (λ (n : Ipv6Prefix). In c.args.id.now (listed_in (record i { call_networks = c.add.new.self }) Af n)) c.network_of.ensures
    (list_has prefix_cmp c.self.inside.call_networks c.add.new.self c.network_of.result c.args.id.now added (network_itself c.network_of.result)))
    c.add.ensures.added
