use Rattle.pcrf_values.proofs.Plain.{clash}
use Rattle.pcrf_model.specs.Sessions.{gx}
use Rattle.indexed_state.proofs.Near.{not_in}
use Rattle.indexed_state.proofs.forgetting.forget_gateway_by.Goals as goal

pub returns : goal.returns
returns c = λ v is covers.
    c.forget_gateway_in.ensures.covers v
    (not_in v (gx c.args.id.now) c.args.after c.network_of-network.result is (λ p e f. clash _ (c.is_in.ensures p e f) c.if-is_in.false)) covers
