use Rattle.std.proofs.Common.{◌≡◌, true, subst, ap, ◌∙◌}
use Rattle.pcrf_model.specs.Requests.{FlowValue}
use Rattle.pcrf_model.specs.Forms.{is_flow, is_none_or, are_filters}
use Rattle.site_machine.proofs.RequestForms.{flow_in_form}
use Rattle.site_machine.proofs.facts.forms.note_flow.Goals as goal

pub returns : goal.returns
returns c =
    let texts : is_none_or are_filters c.args.flow.now.filters ≡ true = rw c.filters.ensures at c.note_filters_given.ensures in
    subst (λ (f : FlowValue). is_flow f ≡ true) c.parts-parts.ensures
    (flow_in_form c.parts-parts.result c.args.flow.now.filters c.note_unsigned.ensures texts c.note_given.ensures c.note_given-2.ensures)
