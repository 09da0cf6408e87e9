use Rattle.std.proofs.Common.{rules, ◌≡◌, List, sym, ap, subst, ◌∙◌}
use Rattle.site_lock.specs.Deeds.{Deed, LeadsTo, account}
use Rattle.site_lock.proofs.living.locked.LivingSite.audit.Goals as goal

pub returns-clause-account : goal.returns-clause-account
returns-clause-account g c =
    let new = c.audit.new.self in
    let same : c.past.result.value.note ≡ new.history = search rules in
    let old : c.past.result.value.note ≡ c.deref_mut.result.now.history = search rules in
    let leads : LeadsTo g.L.Roll.opening new.history new.site = search rules in
    ((new.site, subst (λ (h : List Deed). LeadsTo g.L.Roll.opening h new.site) (sym same) leads), (c.audit.ensures.accounts.0, c.audit.ensures.accounts.1 ∙ ap (account c.args.seat.now.number) (sym old)))
