use Rattle.std.proofs.Common.{rules, ◌≡◌}
use Rattle.pcrf_model.specs.Holdings.{kept_of}
use Rattle.site_lock.specs.Deeds.{LeadsTo}
use Rattle.site_lock.proofs.Leaving.{what_is_left}
use Rattle.site_lock.proofs.living.chronicle.Chronicle.site.Goals as goal

pub returns-clause-holds : goal.returns-clause-holds
returns-clause-holds g c =
    let me = c.args.self.now in
    let leads : LeadsTo g.L.Roll.opening me.history me.site = search rules in
    let kept : kept_of g.L.Roll.opening.holding ≡ g.L.Roll.opening.holding = search rules in
    what_is_left g.L.Roll.opening me kept leads
