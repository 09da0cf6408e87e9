use Rattle.std.proofs.Common.{ℕ, List, subst}
use Rattle.pcrf_model.specs.Views.{view}
use Rattle.rule_delta.specs.Waits.{EachListedWaits}
use Rattle.rule_delta.proofs.Listed.{none_listed}
use Rattle.rule_delta.proofs.waiting.wait_in.Goals as goal

pub returns-in_default-clause-waits : goal.returns-in_default-clause-waits
returns-in_default-clause-waits c = none_listed (view c.args.state.now.facts) c.args.waiting.now _ c.in_default.ensures

pub returns-clause-waits : goal.returns-clause-waits
returns-clause-waits c = subst (λ (l : List (List ℕ)). EachListedWaits (view c.args.state.now.facts) c.wait_each.new.waiting l) c.in-Some.ensures c.wait_each.ensures.waits
