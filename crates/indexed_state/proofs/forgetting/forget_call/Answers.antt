use Rattle.indexed_state.proofs.forgetting.forget_call.Goals as goal

pub returns : goal.returns
returns c = λ v is covers. c.forget_call_by.ensures v is.at_prefix (c.forget_call_at.ensures v is.at_address covers)
