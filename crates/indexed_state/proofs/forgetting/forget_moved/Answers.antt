use Rattle.std.proofs.Common.{subst}
use Rattle.site_join.specs.States.{session_of}
use Rattle.site_join.specs.declared.operation.SessionFacts.{SessionFacts}
use Rattle.indexed_state.specs.Indexed.{IsReached}
use Rattle.indexed_state.proofs.forgetting.forget_moved.Goals as goal

pub returns-in-Gx : goal.returns-in-Gx
returns-in-Gx c = λ v is covers. c.forget_gateway.ensures v (subst (λ (f : SessionFacts). IsReached v (session_of f) c.args.after.now) c.in-Gx.is is) covers

pub returns-in-Af : goal.returns-in-Af
returns-in-Af c = λ v is covers. c.forget_call.ensures v (subst (λ (f : SessionFacts). IsReached v (session_of f) c.args.after.now) c.in-Af.is is) covers
