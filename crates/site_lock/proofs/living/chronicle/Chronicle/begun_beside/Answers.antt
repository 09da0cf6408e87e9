use Rattle.std.proofs.Common.{rules, ◌≡◌}
use Rattle.site_lock.specs.Deeds.{LeadsTo, times_begun}
use Rattle.site_lock.proofs.living.chronicle.Chronicle.begun_beside.Goals as goal

pub returns-clause-found : goal.returns-clause-found
returns-clause-found g c =
    let old = c.args.self.now in
    let leads : LeadsTo g.L.Roll.opening old.history old.site = search rules in
    let times : c.begun.result ≡ times_begun old.history = search rules in
    (old.history, times, ((old.site, leads), c.audit.ensures.accounts))
