use Rattle.std.proofs.Common.{◌≡◌, sym, subst}
use Rattle.site_machine.specs.Sites.{SiteValue}
use Rattle.site_lock.specs.Deeds.{LeadsTo}
use Rattle.site_lock.proofs.living.locked.LivingSite.look.Goals as goal

pub returns : goal.returns
returns g c =
    let now = c.deref.result.now in (
      c.site.result.now,
      (now.history, subst (λ (s : SiteValue). LeadsTo g.L.Roll.opening now.history s) (sym c.site.ensures.site) c.site.ensures.replays),
      c.see.ensures,
    )
