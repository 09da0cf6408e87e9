use Rattle.pcrf_values.proofs.Plain.{clash}
use Rattle.pcrf_model.specs.Sessions.{af}
use Rattle.indexed_state.proofs.Reading.{not_shown}
use Rattle.indexed_state.proofs.forgetting.forget_call_at.Goals as goal

pub returns : goal.returns
returns c = λ v is covers.
    c.forget_call_at.ensures.covers v
    (not_shown v (af c.args.id.now) c.args.after c.in-Some.address is (λ e. clash _ (c.shows.ensures e) c.if-shows.false)) covers
