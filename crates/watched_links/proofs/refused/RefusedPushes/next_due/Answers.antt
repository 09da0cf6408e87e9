use Rattle.std.proofs.Common.{◌≡◌, ℕ, List, IfOk, take, ap, subst, ◌∙◌}
use Rattle.watched_links.specs.LostRulesLimits.{most_due}
use Rattle.watched_links.specs.Refusals.{RefusedValue, StageList, due_of, next_due}
use Rattle.watched_links.proofs.refused.RefusedPushes.next_due.Goals as goal

pub returns-clause-due : goal.returns-clause-due
returns-clause-due c =
    let is : take most_due (due_of c.self.inside.pause c.args.now c.forget_over.new.stages.entries) ≡ next_due c.args.self.now c.args.now =
    ap (λ (es : StageList). take most_due (due_of c.self.inside.pause c.args.now es)) c.forget_over.ensures
    ∙ ap (λ (r : RefusedValue). next_due r c.args.now) c.self.view_is in
    subst (λ (ids : List (List ℕ)). IfOk c.first_due.result (λ due. due.items ≡ ids)) is c.first_due.ensures
