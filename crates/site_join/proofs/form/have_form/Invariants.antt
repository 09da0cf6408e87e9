use Rattle.std.proofs.Common.{◌≡◌, ◌&&◌, length, map}
use Rattle.std.specs.List.{list_all}
use Rattle.pcrf_model.specs.Forms.{fits}
use Rattle.site_join.specs.TagForms.{has_tag}
use Rattle.site_join.proofs.form.have_form.Given as goal

-- all are of the form just where those that are left are
abbrev pub invariant-loop-first : goal.invariant-loop-first
invariant-loop-first g l =
    list_all (λ f. fits g.F.FormFact.kind f && has_tag l.form g.F.FormFact.kind f) (map g.F.TypedFact.fact l.facts)
    ≡ list_all (λ f. fits g.F.FormFact.kind f && has_tag l.form g.F.FormFact.kind f) (map g.F.TypedFact.fact l.left)

abbrev pub decreases-loop-first : goal.decreases-loop-first
decreases-loop-first g l = length l.left
