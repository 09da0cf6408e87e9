use Rattle.std.proofs.Common.{◌≡◌, true, take}
use Rattle.std.specs.List.{list_all}
use Rattle.pcrf_model.specs.Forms.{is_flow}
use Rattle.site_machine.proofs.facts.forms.note_flows.Given as goal

-- those so far have the form
abbrev pub invariant-loop-flow : goal.invariant-loop-flow
invariant-loop-flow l = list_all is_flow (take l.flow-index l.flows) ≡ true
