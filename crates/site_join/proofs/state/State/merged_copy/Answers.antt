use Rattle.std.proofs.Common.{◌≡◌, true, sym, ◌∙◌, subst}
use Rattle.pcrf_model.specs.Holdings.{Holding, union, kept_of}
use Rattle.pcrf_model.specs.Forms.{is_holding}
use Rattle.pcrf_model.proofs.FormLaws.{kept_in_form, union_in_form}
use Rattle.site_join.specs.States.{held_by}
use Rattle.site_join.proofs.StateLaws.{merges}
use Rattle.site_join.proofs.state.State.merged_copy.Goals as goal

pub returns : goal.returns
returns c =
    (λ i. held_by (c.in_ok-gx.ensures i) (c.in_ok-af.ensures i) (c.max.ensures i))
    ∙ merges c.self.inside.gx c.self.inside.af c.other.inside.gx c.other.inside.af c.self.inside.clock c.other.inside.clock c.note_valid.ensures c.note_valid-2.ensures c.note_valid-3.ensures c.note_valid-4.ensures
    ∙ (λ i. kept_of (union (c.self.view_is i) (c.other.view_is i)))

pub invariant_of-result : goal.invariant_of-result
invariant_of-result c =
    let ours = held_by c.self.inside.gx c.self.inside.af c.self.inside.clock in
    let theirs = held_by c.other.inside.gx c.other.inside.af c.other.inside.clock in
    let is = (λ i. held_by (c.in_ok-gx.ensures i) (c.in_ok-af.ensures i) (c.max.ensures i))
    ∙ merges c.self.inside.gx c.self.inside.af c.other.inside.gx c.other.inside.af c.self.inside.clock c.other.inside.clock c.note_valid.ensures c.note_valid-2.ensures c.note_valid-3.ensures c.note_valid-4.ensures in
    subst (λ (h : Holding). is_holding h ≡ true) (sym is)
    (kept_in_form (union ours theirs) (union_in_form ours theirs c.self.invariant c.other.invariant))
