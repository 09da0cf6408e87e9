use Rattle.pcrf_serve.proofs.Chains.{gains_then}
use Rattle.pcrf_serve.proofs.Answering.{IsOfWorker}
use Rattle.pcrf_serve.proofs.conversing.serve_stream.Goals as goal

pub returns-in_err-drain : goal.returns-in_err-drain
returns-in_err-drain g c = gains_then IsOfWorker _ _ _ c.loop.invariant c.drain.ensures

pub loop-preserved : goal.loop-preserved
loop-preserved g c = gains_then IsOfWorker _ _ _ c.loop.invariant c.drain.ensures

pub returns-in_err-flush : goal.returns-in_err-flush
returns-in_err-flush g c = gains_then IsOfWorker _ _ _ c.loop.invariant c.drain.ensures
