use Rattle.std.proofs.Common.{◌≡◌, subst}
use Rattle.pcrf_model.specs.Holdings.{Holding, kept_of}
use Rattle.site_join.proofs.StateLaws.{holds_kept}
use Rattle.site_join.proofs.state.State.note_kept.Goals as goal

pub returns : goal.returns
returns c = subst (λ (h : Holding). kept_of h ≡ h) c.self.view_is
    (holds_kept c.self.inside.gx c.self.inside.af c.self.inside.clock c.note_valid.ensures c.note_valid-2.ensures)
