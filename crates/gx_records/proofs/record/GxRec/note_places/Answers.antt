use Rattle.std.proofs.Common.{◌≡◌, ◌∙◌, ap, None}
use Rattle.pcrf_values.specs.Places.{OfComponent, OfFlow}
use Rattle.pcrf_values.specs.Held.{entry_shown}
use Rattle.gx_records.proofs.FieldLaws.{no_components, no_flows}
use Rattle.gx_records.proofs.record.GxRec.note_places.Goals as goal

pub returns-clause-components : goal.returns-clause-components
returns-clause-components c d f = no_components c.as_slice.result.now d f ∙ ap (λ l. entry_shown l (OfComponent d f)) (c.as_slice.ensures.facts ∙ c.self.view_is)

pub returns-clause-flows : goal.returns-clause-flows
returns-clause-flows c d n f = no_flows c.as_slice.result.now d n f ∙ ap (λ l. entry_shown l (OfFlow d n f)) (c.as_slice.ensures.facts ∙ c.self.view_is)
