use Rattle.std.proofs.Common.{◌≡◌, ◌∙◌, true, false, map, sym}
use Rattle.std.specs.Option.{option_copied}
use Rattle.lattice_core.specs.Orders.{first_is_theirs}
use Rattle.lattice_core.proofs.MergeLaws.{took_theirs, took_ours, match_copied}
use Rattle.lattice_core.proofs.keeping.take_least_of.Goals as goal

pub returns-then-is_first_theirs-clause-least : goal.returns-then-is_first_theirs-clause-least
returns-then-is_first_theirs-clause-least g c =
    match_copied c.take_first.result _ _
    (took_theirs g.F.TypedFact.fact c.args.ours.now.now c.args.theirs.now.now c.take_first.new.facts.now (option_copied c.take_first.result) c.requires.ours c.requires.theirs
    (sym c.is_first_theirs.ensures ∙ c.if-is_first_theirs.true) c.take_first.ensures.items c.take_first.ensures.rest)

pub returns-else-is_first_theirs-clause-least : goal.returns-else-is_first_theirs-clause-least
returns-else-is_first_theirs-clause-least g c =
    match_copied c.take_first-else-is_first_theirs.result _ _
    (took_ours g.F.TypedFact.fact c.args.ours.now.now c.args.theirs.now.now c.take_first-else-is_first_theirs.new.facts.now (option_copied c.take_first-else-is_first_theirs.result) c.requires.ours c.requires.theirs
    (sym c.is_first_theirs.ensures ∙ c.if-is_first_theirs.false) c.take_first-else-is_first_theirs.ensures.items c.take_first-else-is_first_theirs.ensures.rest)
