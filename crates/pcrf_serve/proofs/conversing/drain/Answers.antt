use Rattle.pcrf_serve.proofs.Chains.{gains_then}
use Rattle.pcrf_serve.proofs.Answering.{IsOfWorker}
use Rattle.pcrf_serve.proofs.conversing.drain.Goals as goal

pub returns-in_err-serve_frame-in-Ok-Some : goal.returns-in_err-serve_frame-in-Ok-Some
returns-in_err-serve_frame-in-Ok-Some g c = gains_then IsOfWorker _ _ _ c.loop.invariant c.serve_frame.ensures

pub returns-then-branch : goal.returns-then-branch
returns-then-branch g c = gains_then IsOfWorker _ _ _ c.loop.invariant c.serve_frame.ensures

pub loop-preserved : goal.loop-preserved
loop-preserved g c = gains_then IsOfWorker _ _ _ c.loop.invariant c.serve_frame.ensures
