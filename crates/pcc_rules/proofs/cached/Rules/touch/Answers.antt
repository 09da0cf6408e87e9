use Rattle.std.proofs.Common.{ℕ, List, subst}
use Rattle.pcc_rules.specs.Cached.{AreStale}
use Rattle.pcc_rules.proofs.Stale.{stale_none}
use Rattle.pcc_rules.proofs.cached.Rules.touch.Goals as goal

pub returns-in_default : goal.returns-in_default
returns-in_default c = subst (λ (ids : List (List ℕ)). AreStale c.args.self.now c.args.self.now ids) c.in_default.ensures (stale_none c.args.self.now)

pub returns : goal.returns
returns c = subst (λ (ids : List (List ℕ)). AreStale c.args.self.now c.touch_each.new.self ids) c.in-Some.ensures c.touch_each.ensures
