use Rattle.std.proofs.Common.{Some, ap, ◌∙◌}
use Rattle.pcc_rules.specs.Cached.{RulesValue, cached_at}
use Rattle.pcc_rules.proofs.Hashed.{found_alike}
use Rattle.pcc_rules.proofs.cached.Rules.get.Goals as goal

pub returns-in_default : goal.returns-in_default
returns-in_default c =
    c.in_default.ensures.value ∙ found_alike c.args.session.now c.self.inside.lists.entries
    ∙ ap (λ (m : RulesValue). cached_at m c.args.session.now) c.self.view_is

pub returns : goal.returns
returns c =
    ap Some (c.as_slice.ensures.value ∙ c.list.view_is) ∙ c.in-Some.ensures.value ∙ found_alike c.args.session.now c.self.inside.lists.entries
    ∙ ap (λ (m : RulesValue). cached_at m c.args.session.now) c.self.view_is
