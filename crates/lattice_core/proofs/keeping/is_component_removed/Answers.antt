use Rattle.std.proofs.Common.{◌∙◌, sym, ap, map}
use Rattle.std.specs.List.{list_any}
use Rattle.pcrf_values.specs.Places.{Component, removed_position}
use Rattle.lattice_core.specs.Beneath.{removes, stands_at}
use Rattle.lattice_core.specs.declared.fact.Beneath.TheVariants as beneath
use Rattle.lattice_core.proofs.BeneathLaws.{first_of_either, second_of_either}
use Rattle.lattice_core.proofs.keeping.is_component_removed.Goals as goal

pub returns-then-is_ended : goal.returns-then-is_ended
returns-then-is_ended g c =
    let facts = map g.F.TypedFact.fact c.args.facts.now in
    c.if-is_ended.true ∙ first_of_either (removes beneath.Session) (stands_at (removed_position (Component c.args.component))) facts (sym c.is_ended.ensures ∙ c.if-is_ended.true)

pub returns-else-is_ended : goal.returns-else-is_ended
returns-else-is_ended g c =
    let facts = map g.F.TypedFact.fact c.args.facts.now in
    second_of_either (removes beneath.Session) (stands_at (removed_position (Component c.args.component))) facts c.has_at.result (sym c.is_ended.ensures ∙ c.if-is_ended.false) (c.has_at.ensures ∙ ap (λ p. list_any (stands_at p) facts) c.of_component_removal.ensures)
