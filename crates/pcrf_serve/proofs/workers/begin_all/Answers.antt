use Rattle.std.proofs.Common.{length, arith, ap, subst, ◌∙◌}
use Rattle.pcrf_serve.specs.Workers.{BegunFrom}
use Rattle.pcrf_serve.proofs.Covering.{Covers, covers_next, covers_all}
use Rattle.pcrf_serve.proofs.Chains.{gains_same}
use Rattle.pcrf_serve.proofs.Answering.{IsOfWorker}
use Rattle.pcrf_serve.proofs.workers.begin_all.Goals as goal

pub loop-seat-preserved-in_default : goal.loop-seat-preserved-in_default
loop-seat-preserved-in_default g c =
    let was = c.loop-seat.invariant in let step = c.in-Some.ensures.steps in
    let before = subst (λ xs. Covers (λ connection begun. BegunFrom g.S.SharedSite.seen (g.S.SharedSite.seen connection.0) begun) c.args.connections.items c.loop-seat.begun.items xs) step.0 was.0 in (
      rw c.push_reserved.ensures.items (covers_next _ _ _ _ _ _ before (gains_same IsOfWorker _)),
      (let e = ap length step.0 in let w = was.1 in let f = step.1 in omega arith),
      (let f = step.1 in let a = c.push_reserved.ensures.len in let b = c.push_reserved.ensures.capacity in omega arith),
    )

pub loop-seat-preserved : goal.loop-seat-preserved
loop-seat-preserved g c =
    let was = c.loop-seat.invariant in let step = c.in-Some.ensures.steps in
    let before = subst (λ xs. Covers (λ connection begun. BegunFrom g.S.SharedSite.seen (g.S.SharedSite.seen connection.0) begun) c.args.connections.items c.loop-seat.begun.items xs) step.0 was.0 in (
      rw c.push_reserved-in-loop-seat.ensures.items (covers_next _ _ _ _ _ _ before c.begin.ensures),
      (let e = ap length step.0 in let w = was.1 in let f = step.1 in omega arith),
      (let f = step.1 in let a = c.push_reserved-in-loop-seat.ensures.len in let b = c.push_reserved-in-loop-seat.ensures.capacity in omega arith),
    )

pub returns : goal.returns
returns g c = covers_all _ _ _ _ c.loop-seat.invariant.0 (c.loop-seat.invariant.1 ∙ c.in-None.ensures.steps.0)
