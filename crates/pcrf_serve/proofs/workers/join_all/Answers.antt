use Rattle.std.proofs.Common.{length, arith, ap, subst, ◌∙◌}
use Rattle.pcrf_serve.specs.Workers.{Joins}
use Rattle.pcrf_serve.proofs.Covering.{Covers, covers_next, covers_all}
use Rattle.pcrf_serve.proofs.workers.join_all.Goals as goal

pub loop-worker-preserved : goal.loop-worker-preserved
loop-worker-preserved g c =
    let was = c.loop-worker.invariant in let step = c.in-Some.ensures.steps in
    let before = subst (λ xs. Covers (Joins g.S.SharedSite.seen) c.args.begun.items c.loop-worker.ended.items xs) step.0 was.0 in (
      rw c.push_reserved.ensures.items (covers_next _ _ _ _ _ _ before c.join_one.ensures),
      (let e = ap length step.0 in let w = was.1 in let f = step.1 in omega arith),
      (let f = step.1 in let a = c.push_reserved.ensures.len in let b = c.push_reserved.ensures.capacity in omega arith),
    )

pub returns : goal.returns
returns g c = covers_all _ _ _ _ c.loop-worker.invariant.0 (c.loop-worker.invariant.1 ∙ c.in-None.ensures.steps.0)
