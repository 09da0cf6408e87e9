use Rattle.site_machine.proofs.RequestForms.{components_apart}
use Rattle.site_machine.proofs.facts.forms.note_components.Goals as goal

pub returns-clause-apart : goal.returns-clause-apart
returns-clause-apart c = components_apart c.args.components.now c.as_slice-component-items.ensures.apart
