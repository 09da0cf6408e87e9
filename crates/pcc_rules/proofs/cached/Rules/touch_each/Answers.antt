use Rattle.std.proofs.Common.{ℕ, List, sym, subst, ◌∙◌}
use Rattle.pcc_rules.specs.Cached.{AreStale}
use Rattle.pcc_rules.proofs.Stale.{stale_none, stale_more}
use Rattle.pcc_rules.proofs.cached.Rules.touch_each.Goals as goal

pub loop-session-init : goal.loop-session-init
loop-session-init c = record { rest = λ after h. subst (λ (ids : List (List ℕ)). AreStale c.args.self.now after ids) (c.into_iter-session-iterator.ensures.into_iter_gives ∙ c.iter-session-items.ensures.all) h }

pub loop-session-preserved : goal.loop-session-preserved
loop-session-preserved c = record {
  rest = λ after h. c.loop-session.invariant.rest after
      (subst (λ (ids : List (List ℕ)). AreStale c.loop-session.self after ids) (sym c.in-Some.ensures.steps)
      (stale_more c.loop-session.self c.touch_one.new.self after c.in-Some.session.now c.next.new.self c.touch_one.ensures h));
}

pub returns : goal.returns
returns c = c.loop-session.invariant.rest c.loop-session.self
    (subst (λ (ids : List (List ℕ)). AreStale c.loop-session.self c.loop-session.self ids) (sym c.in-None.ensures.steps.0) (stale_none c.loop-session.self))
