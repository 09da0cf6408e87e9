use Rattle.std.proofs.Common.{ℕ, List, Some, cond, ap, ◌∙◌}
use Rattle.std.specs.Ordering.{is_eq}
use Rattle.pcrf_values.specs.Orders.{text_cmp}
use Rattle.pcc_rules.specs.Cached.{RulesValue, cached_at}
use Rattle.pcc_rules.proofs.Hashed.{changed_alike}
use Rattle.pcc_rules.proofs.cached.Rules.keep.Goals as goal

pub returns-clause-kept : goal.returns-clause-kept
returns-clause-kept c = λ q.
    changed_alike _ (Some c.args.rules.items) c.self.inside.lists.entries c.insert.new.self.entries c.in_default.ensures.updates.0 q
    ∙ ap (λ (k : List ℕ). cond (is_eq (text_cmp k q)) (Some c.args.rules.items) (cached_at c.self.inside.lists.entries q)) c.in_ok-session.ensures
    ∙ ap (λ (m : RulesValue). cond (is_eq (text_cmp c.args.session.now q)) (Some c.args.rules.items) (cached_at m q)) c.self.view_is
