use Rattle.std.proofs.Common.{◌≡◌, List, map, ap, sym, ◌∙◌, subst}
use Rattle.pcrf_values.specs.Places.{Position, OfSession}
use Rattle.pcrf_values.specs.Facts.{Fact}
use Rattle.pcrf_values.specs.Held.{entry_shown}
use Rattle.pcrf_values.specs.Sets.{In}
use Rattle.lattice_core.specs.SessionFacts.{session_fact}
use Rattle.gx_records.specs.declared.fact.GxFact.{GxFact}
use Rattle.gx_records.specs.GxFacts.{fact_of}
use Rattle.gx_records.proofs.FieldLaws.{In-at, field_position, kept_shows}
use Rattle.gx_records.proofs.record.GxRec.field_in_place.Goals as goal

pub returns-clause-shown : goal.returns-clause-shown
returns-clause-shown c f e =
    let found = In-at c.as_slice.result.now _ c.in-Some.fact.now c.in-Some.ensures.lookup.0 c.in-Some.ensures.lookup.1 in
    let field = subst (λ (x : GxFact). In (fact_of x) (map fact_of c.as_slice.result.now)) c.in-Field.is found in
    let there = subst (λ (l : List Fact). In (session_fact c.in-Field.tag c.in-Field.value) l) c.as_slice.ensures.facts field in
    let number = ap (λ (p : Position). p.1.1.1.0) (c.session_position-2.view_is ∙ c.session_position.ensures c.in-Field.tag ∙ field_position c.in-Field.tag c.in-Field.value) in
    kept_shows c.self.inside.facts c.in-Field.tag c.in-Field.value f c.as_slice.ensures.kept there (e ∙ sym c.if-session_position-number.false ∙ number)
    ∙ ap (λ l. entry_shown l (OfSession f)) c.self.view_is
