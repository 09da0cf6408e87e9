use Rattle.std.proofs.Common.{ap}
use Rattle.pcrf_serve.proofs.Chains.{gains_equal, gains_then}
use Rattle.pcrf_serve.proofs.Answering.{IsOfWorker, pushes_gained}
use Rattle.pcrf_serve.proofs.conversing.serve_anew.Goals as goal
use Rattle.pcrf_serve.proofs.conversing.serve_anew.Goals.{then-calls+in_ok-push, else-calls}

pub returns-in_err-push : goal.returns-in_err-push
returns-in_err-push g c =
    let gathered = gains_then IsOfWorker _ _ _ c.answer.ensures (gains_equal IsOfWorker _ _ (ap g.S.SharedSite.seen c.gather.ensures)) in
    gains_then IsOfWorker _ _ _ gathered (pushes_gained _ _ c.push.ensures)

-- what was answered, and what was pushed behind it
pub returns : goal.returns
returns g c =
    let gathered = gains_then IsOfWorker _ _ _ c.answer.ensures (gains_equal IsOfWorker _ _ (ap g.S.SharedSite.seen c.gather.ensures)) in
    elim c.if-calls.branch [
      | then-calls+in_ok-push w ↦ gains_then IsOfWorker _ _ _ (gains_then IsOfWorker _ _ _ gathered (pushes_gained _ _ w.push.ensures)) (gains_equal IsOfWorker _ _ (ap (λ at. g.S.SharedSite.seen at.seat) w.at-is))
      | else-calls w ↦ gains_then IsOfWorker _ _ _ gathered (gains_equal IsOfWorker _ _ (ap (λ at. g.S.SharedSite.seen at.seat) w.at-is))
    ]
