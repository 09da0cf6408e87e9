use Rattle.std.proofs.Common.{refl, sym, subst}
use Rattle.bind_index.specs.Index.{IndexValue, Covers}
use Rattle.bind_index.proofs.Forgotten.{call_network_forgotten}
use Rattle.bind_index.proofs.index.Index.forget_call_in.Goals as goal

pub returns-clause-covers : goal.returns-clause-covers
returns-clause-covers c = λ v none h.
    let i : IndexValue = record { gateways = c.self.inside.gateways; calls = c.self.inside.calls; subscribed = c.self.inside.subscribed; gateway_networks = c.self.inside.gateway_networks; call_networks = c.self.inside.call_networks } in
    call_network_forgotten i (record i { call_networks = c.remove.new.self }) c.args.network.now c.args.id.now c.remove.ensures refl (record { gateways = refl; calls = refl; subscribed = refl }) v none
    (subst (λ (m : IndexValue). Covers v m) (sym c.self.view_is) h)
