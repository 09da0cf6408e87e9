use Rattle.std.proofs.Common.{◌≡◌, ◌∙◌, true, false, map, sym}
use Rattle.lattice_core.specs.Orders.{first_is_theirs}
use Rattle.lattice_core.proofs.MergeLaws.{took_theirs, took_ours}
use Rattle.lattice_core.proofs.keeping.take_least.Goals as goal

pub returns-then-is_theirs-clause-least : goal.returns-then-is_theirs-clause-least
returns-then-is_theirs-clause-least g c =
    took_theirs g.F.TypedFact.fact c.args.ours.now.items c.args.theirs.now.items c.pop_front.new.self.items c.pop_front.result c.requires.ours c.requires.theirs
    (sym c.is_theirs.ensures ∙ c.if-is_theirs.true) c.pop_front.ensures.items c.pop_front.ensures.rest

pub returns-else-is_theirs-clause-least : goal.returns-else-is_theirs-clause-least
returns-else-is_theirs-clause-least g c =
    took_ours g.F.TypedFact.fact c.args.ours.now.items c.args.theirs.now.items c.pop_front-else-is_theirs.new.self.items c.pop_front-else-is_theirs.result c.requires.ours c.requires.theirs
    (sym c.is_theirs.ensures ∙ c.if-is_theirs.false) c.pop_front-else-is_theirs.ensures.items c.pop_front-else-is_theirs.ensures.rest
