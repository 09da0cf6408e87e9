use Rattle.std.proofs.Common.{subst}
use Rattle.bind_index.specs.Index.{IndexValue, Grows}
use Rattle.bind_index.proofs.Covering.{subscribed_grow}
use Rattle.bind_index.proofs.index.Index.add_subscribed.Goals as goal

pub returns-clause-grows : goal.returns-clause-grows
returns-clause-grows c =
    let i : IndexValue = record { gateways = c.self.inside.gateways; calls = c.self.inside.calls; subscribed = c.self.inside.subscribed; gateway_networks = c.self.inside.gateway_networks; call_networks = c.self.inside.call_networks } in
    subst (λ (m : IndexValue). Grows m (record i { subscribed = c.list_under.new.lists })) c.self.view_is
    (subscribed_grow i c.list_under.new.lists c.list_under.ensures.grows)
