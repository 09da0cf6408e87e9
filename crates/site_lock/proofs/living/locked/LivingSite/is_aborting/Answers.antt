use Rattle.std.proofs.Common.{rules, ◌≡◌, sym, ap, subst, ◌∙◌}
use Rattle.site_machine.specs.Sites.{NoneAbandoned, SiteValue}
use Rattle.site_lock.specs.Deeds.{LeadsTo, account}
use Rattle.site_lock.proofs.living.locked.LivingSite.is_aborting.Goals as goal

pub returns-clause-none : goal.returns-clause-none
returns-clause-none g c = λ none. (
    let new = c.audit.new.self in
    let old : new.history ≡ c.deref_mut.result.now.history = search rules in
    let leads : LeadsTo g.L.Roll.opening new.history new.site = search rules in
    let found : c.site.result.now ≡ new.site = search rules in
    let nothing : NoneAbandoned new.site c.args.host.now = subst (λ (s : SiteValue). NoneAbandoned s c.args.host.now) found (c.is_aborting.ensures none) in
    (new.site, (new.history, leads, (c.audit.ensures.accounts.0, c.audit.ensures.accounts.1 ∙ ap (account c.args.seat.now.number) (sym old))), nothing))
