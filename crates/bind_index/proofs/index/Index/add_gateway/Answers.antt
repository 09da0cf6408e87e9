use Rattle.std.proofs.Common.{subst}
use Rattle.std.proofs.lemmas.Result.{on_ok_weaker}
use Rattle.bind_index.specs.Index.{address_cmp, IndexValue, Grows}
use Rattle.bind_index.proofs.Covering.{address_itself, gateways_grow, result_grows, list_has}
use Rattle.bind_index.proofs.index.Index.add_gateway.Goals as goal

pub returns-clause-grows : goal.returns-clause-grows
returns-clause-grows c =
    let i : IndexValue = record { gateways = c.self.inside.gateways; calls = c.self.inside.calls; subscribed = c.self.inside.subscribed; gateway_networks = c.self.inside.gateway_networks; call_networks = c.self.inside.call_networks } in
    subst (λ (m : IndexValue). Grows m (record i { gateways = c.add.new.self })) c.self.view_is
    (gateways_grow i c.add.new.self (result_grows address_cmp c.self.inside.gateways c.add.new.self c.args.address.now c.args.id.now c.add.result c.add.ensures.added c.add.ensures.unchanged))

pub returns-clause-lists : goal.returns-clause-lists
returns-clause-lists c =
    on_ok_weaker c.add.result
    (λ added. list_has address_cmp c.self.inside.gateways c.add.new.self c.args.address.now c.args.id.now added (address_itself c.args.address.now))
    c.add.ensures.added
