use Rattle.std.proofs.Common.{refl, sym, subst}
use Rattle.bind_index.specs.Index.{IndexValue, Covers}
use Rattle.bind_index.proofs.Forgotten.{subscribers_forgotten}
use Rattle.bind_index.proofs.index.Index.forget_gateway_of.Goals as goal

pub returns-clause-covers : goal.returns-clause-covers
returns-clause-covers c = λ v none h.
    let i : IndexValue = record { gateways = c.self.inside.gateways; calls = c.self.inside.calls; subscribed = c.self.inside.subscribed; gateway_networks = c.self.inside.gateway_networks; call_networks = c.self.inside.call_networks } in
    subscribers_forgotten i (record i { subscribed = c.unlist_under.new.lists }) c.args.id.now c.args.subscribers.now c.unlist_under.ensures refl refl (record { gateways = refl; calls = refl }) v none
    (subst (λ (m : IndexValue). Covers v m) (sym c.self.view_is) h)
