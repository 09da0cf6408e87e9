use Rattle.std.proofs.Common.{◌≡◌, ℕ, Some, None, subst}
use Rattle.pcrf_model.specs.Aborting.{abandoned_session}
use Rattle.pcrf_model.specs.Pushing.{due_session}
use Rattle.pcrf_model.specs.Views.{view}
use Rattle.indexed_state.specs.Indexed.{IndexedValue}
use Rattle.rule_delta.proofs.FirstDue.{nobody_due}
use Rattle.rule_delta.proofs.FirstLeft.{nobody_left}
use Rattle.indexed_state.proofs.indexed.IndexedState.is_quiet.Goals as goal

pub returns-clause-pushes : goal.returns-clause-pushes
returns-clause-pushes c = λ quiet host. (
    let none = nobody_due c.self.inside.tables c.self.inside.site c.self.inside.state.facts host c.self.inside.waiting c.self.invariant.due (c.nobody_waits.ensures.pushes quiet host) in
    subst (λ (v : IndexedValue). due_session v.tables c.args.site (view v.holding.facts) (Some host) ≡ None) c.self.view_is
    (subst (λ (i : ℕ). due_session c.self.inside.tables i (view c.self.inside.state.facts) (Some host) ≡ None) (c.nobody_waits.ensures.here quiet) none))

pub returns-clause-aborts : goal.returns-clause-aborts
returns-clause-aborts c = λ quiet host. (
    let none = nobody_left c.self.inside.site c.self.inside.state.facts host c.self.inside.aborts c.self.invariant.abandoned (c.nobody_waits.ensures.aborts quiet host) in
    subst (λ (v : IndexedValue). abandoned_session c.args.site (view v.holding.facts) (Some host) ≡ None) c.self.view_is
    (subst (λ (i : ℕ). abandoned_session i (view c.self.inside.state.facts) (Some host) ≡ None) (c.nobody_waits.ensures.here quiet) none))
