use Rattle.std.proofs.Common.{map, sym}
use Rattle.site_machine.specs.Ended.{session_named}
use Rattle.site_lock.specs.Deeds.{forgettable}
use Rattle.site_lock.proofs.Forgetting.{of_these}
use Rattle.site_lock.proofs.living.locked.LivingSite.forget.Goals as goal

pub returns : goal.returns
returns g c =
    let h = c.deref_mut.result.now.site.state.holding in
    let all = map session_named c.args.sessions.now in
    (forgettable h all, c.forget_all.ensures.keeper, sym c.forget_all.ensures.count, of_these h all)
