use Rattle.std.proofs.Common.{refl, sym, subst, List}
use Rattle.pcrf_values.specs.Facts.{Fact}
use Rattle.pcrf_model.specs.Views.{view}
use Rattle.bind_index.specs.Forgetting.{ForgetsUnshown}
use Rattle.bind_index.specs.Index.{IndexValue, Covers}
use Rattle.bind_index.proofs.BySubscriber.{unshown_forgotten}
use Rattle.bind_index.proofs.index.Index.forget_unshown.Goals as goal

pub returns-clause-covers : goal.returns-clause-covers
returns-clause-covers c = λ facts known h.
    let i : IndexValue = record { gateways = c.self.inside.gateways; calls = c.self.inside.calls; subscribed = c.self.inside.subscribed; gateway_networks = c.self.inside.gateway_networks; call_networks = c.self.inside.call_networks } in
    let j : IndexValue = record i { subscribed = c.unlist_unshown.new.lists } in
    unshown_forgotten i j c.args.id.now c.args.subscribers.now facts
    (subst (λ (fs : List Fact). ForgetsUnshown i.subscribed j.subscribed c.args.id.now c.args.subscribers.now fs) known c.unlist_unshown.ensures)
    refl refl (record { gateways = refl; calls = refl })
    (subst (λ (m : IndexValue). Covers (view facts) m) (sym c.self.view_is) h)
