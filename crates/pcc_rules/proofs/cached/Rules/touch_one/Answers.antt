use Rattle.std.proofs.Common.{None, [], ◌∷◌, subst}
use Rattle.pcc_rules.specs.Cached.{RulesValue, AreStale}
use Rattle.pcc_rules.proofs.Hashed.{changed_alike}
use Rattle.pcc_rules.proofs.Stale.{stale_one}
use Rattle.pcc_rules.proofs.cached.Rules.touch_one.Goals as goal

pub returns : goal.returns
returns c = subst (λ (m : RulesValue). AreStale m c.remove.new.self.entries (c.args.session.now ∷ [])) c.self.view_is
    (stale_one c.self.inside.lists.entries c.remove.new.self.entries c.args.session.now
    (changed_alike c.args.session.now None c.self.inside.lists.entries c.remove.new.self.entries c.remove.ensures.updates.0))
