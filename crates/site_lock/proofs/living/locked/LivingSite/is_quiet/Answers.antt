use Rattle.std.proofs.Common.{rules, ◌≡◌, sym, ap, subst, ◌∙◌}
use Rattle.site_machine.specs.Sites.{NoneAbandoned, OwesNothing, SiteValue}
use Rattle.site_lock.specs.Deeds.{LeadsTo, account}
use Rattle.site_lock.proofs.living.locked.LivingSite.is_quiet.Goals as goal

pub returns-clause-pushes : goal.returns-clause-pushes
returns-clause-pushes g c = λ quiet host. (
    let new = c.audit.new.self in
    let old : new.history ≡ c.deref_mut.result.now.history = search rules in
    let leads : LeadsTo g.L.Roll.opening new.history new.site = search rules in
    let found : c.site.result.now ≡ new.site = search rules in
    let nothing : OwesNothing new.site host = subst (λ (s : SiteValue). OwesNothing s host) found (c.is_quiet.ensures.pushes quiet host) in
    (new.site, (new.history, leads, (c.audit.ensures.accounts.0, c.audit.ensures.accounts.1 ∙ ap (account c.args.seat.now.number) (sym old))), nothing))

pub returns-clause-aborts : goal.returns-clause-aborts
returns-clause-aborts g c = λ quiet host. (
    let new = c.audit.new.self in
    let old : new.history ≡ c.deref_mut.result.now.history = search rules in
    let leads : LeadsTo g.L.Roll.opening new.history new.site = search rules in
    let found : c.site.result.now ≡ new.site = search rules in
    let nothing : NoneAbandoned new.site host = subst (λ (s : SiteValue). NoneAbandoned s host) found (c.is_quiet.ensures.aborts quiet host) in
    (new.site, (new.history, leads, (c.audit.ensures.accounts.0, c.audit.ensures.accounts.1 ∙ ap (account c.args.seat.now.number) (sym old))), nothing))
