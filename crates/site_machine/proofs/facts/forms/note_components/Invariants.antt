use Rattle.std.proofs.Common.{◌≡◌, true, take}
use Rattle.std.specs.List.{list_all}
use Rattle.pcrf_model.specs.Forms.{is_component}
use Rattle.site_machine.proofs.facts.forms.note_components.Given as goal

-- those so far have the form
abbrev pub invariant-loop-component : goal.invariant-loop-component
invariant-loop-component l = list_all is_component (take l.component-index l.component-items) ≡ true
