use Rattle.std.proofs.Common.{◌≡◌, true, List, subst}
use Rattle.std.specs.List.{list_all}
use Rattle.pcrf_model.specs.Requests.{FlowValue, ComponentValue}
use Rattle.pcrf_model.specs.Forms.{is_flow, is_component}
use Rattle.site_machine.proofs.RequestForms.{component_in_form}
use Rattle.site_machine.proofs.facts.forms.note_component.Goals as goal

pub returns : goal.returns
returns c =
    let each = subst (λ (fs : List FlowValue). list_all is_flow fs ≡ true) c.flows.ensures.flows c.note_flows.ensures in
    subst (λ (x : ComponentValue). is_component x ≡ true) c.parts-parts.ensures
    (component_in_form c.parts-parts.result c.args.component.now.flows c.note_unsigned.ensures c.note_given.ensures c.note_given-2.ensures c.note_given-3.ensures each c.flows.ensures.apart)
