use Rattle.std.proofs.Common.{ℕ, List, subst, ◌∙◌}
use Rattle.pcrf_model.specs.Views.{view}
use Rattle.rule_delta.specs.Abandoned.{EachListedCallWaits}
use Rattle.rule_delta.proofs.Waited.{keeps_through}
use Rattle.rule_delta.proofs.AbortListed.{next_waits, all_waited}
use Rattle.rule_delta.proofs.aborts.waiting.wait_each.Goals as goal

pub loop-id-preserved : goal.loop-id-preserved
loop-id-preserved c = record {
  keeps = keeps_through c.args.waiting.now c.loop-id.waiting c.wait_one.new.waiting c.loop-id.invariant.keeps c.wait_one.ensures.keeps;
  so_far = λ x m. next_waits (view c.args.state.now.facts) c.loop-id.waiting c.wait_one.new.waiting c.loop-id.id-iterator c.next.new.self c.in-Some.id.now x
      c.wait_one.ensures.keeps c.in-Some.ensures.steps c.wait_one.ensures.waits (c.loop-id.invariant.so_far x m);
}

pub returns-clause-waits : goal.returns-clause-waits
returns-clause-waits c =
    subst (λ (l : List (List ℕ)). EachListedCallWaits (view c.args.state.now.facts) c.loop-id.waiting l) (c.into_iter-id-iterator.ensures.into_iter_gives ∙ c.iter-id-items.ensures.all)
    (all_waited (view c.args.state.now.facts) c.loop-id.waiting c.into_iter-id-iterator.result c.loop-id.id-iterator c.loop-id.invariant.so_far c.in-None.ensures.steps.0)
