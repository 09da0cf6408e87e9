use Rattle.indexed_state.proofs.forgetting.forget_gateway.Goals as goal

pub returns : goal.returns
returns c = λ v is covers. c.forget_gateway_by.ensures v is.at_prefix (c.forget_gateway_at.ensures v is.at_address covers)
