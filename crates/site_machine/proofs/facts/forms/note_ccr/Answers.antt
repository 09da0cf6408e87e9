use Rattle.std.proofs.Common.{◌≡◌, true, List, ℕ, subst}
use Rattle.pcrf_values.proofs.Plain.{both}
use Rattle.pcrf_model.specs.Sessions.{Gx}
use Rattle.pcrf_model.specs.Forms.{is_origin}
use Rattle.site_machine.proofs.facts.forms.note_ccr.Goals as goal

pub returns : goal.returns
returns c =
    let origin = subst (λ (s : List ℕ). is_origin s c.args.ccr.now.origin.host c.args.ccr.now.origin.realm ≡ true) c.id.ensures c.note_origin.ensures in
    both _ _ (both _ _ origin (c.note_user.ensures Gx)) c.note_unsigned.ensures
