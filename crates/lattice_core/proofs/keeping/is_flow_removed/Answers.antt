use Rattle.std.proofs.Common.{◌∙◌, sym, ap, map}
use Rattle.std.specs.List.{list_any}
use Rattle.pcrf_values.specs.Places.{Flow, removed_position}
use Rattle.lattice_core.specs.Beneath.{removes, stands_at}
use Rattle.lattice_core.specs.declared.fact.Beneath.TheVariants as beneath
use Rattle.lattice_core.proofs.BeneathLaws.{first_of_either, second_of_either}
use Rattle.lattice_core.proofs.keeping.is_flow_removed.Goals as goal

pub returns-then-is_component_removed : goal.returns-then-is_component_removed
returns-then-is_component_removed g c =
    let facts = map g.F.TypedFact.fact c.args.facts.now in
    c.if-is_component_removed.true ∙ first_of_either (removes (beneath.Component c.args.component)) (stands_at (removed_position (Flow c.args.component c.args.flow))) facts (sym c.is_component_removed.ensures ∙ c.if-is_component_removed.true)

pub returns-else-is_component_removed : goal.returns-else-is_component_removed
returns-else-is_component_removed g c =
    let facts = map g.F.TypedFact.fact c.args.facts.now in
    second_of_either (removes (beneath.Component c.args.component)) (stands_at (removed_position (Flow c.args.component c.args.flow))) facts c.has_at.result (sym c.is_component_removed.ensures ∙ c.if-is_component_removed.false) (c.has_at.ensures ∙ ap (λ p. list_any (stands_at p) facts) c.of_flow_removal.ensures)
