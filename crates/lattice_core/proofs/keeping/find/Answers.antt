use Rattle.std.proofs.Common.{◌≡◌, true, false, map, take, ap, sym, ◌∙◌, rules}
use Rattle.std.proofs.lemmas.List.{take_all}
use Rattle.std.specs.List.{list_any}
use Rattle.lattice_core.specs.Beneath.{stands_at}
use Rattle.lattice_core.proofs.FoundLaws.{found_here, none_yet, none_there}
use Rattle.lattice_core.proofs.keeping.find.Goals as goal

pub returns-then-is : goal.returns-then-is
returns-then-is g c =
    let stands : stands_at c.args.sought.now (g.F.TypedFact.fact c.fact-item.result) ≡ true = search rules in
    found_here g.F.TypedFact.fact c.args.facts.now c.args.sought.now c.loop-fact.fact-index c.fact-item.result c.loop-fact-test.true c.fact-item.is stands

pub returns : goal.returns
returns g c =
    let all : take c.loop-fact.fact-index c.args.facts.now ≡ c.args.facts.now = search (rules, take_all) in
    none_there (map g.F.TypedFact.fact c.args.facts.now) c.args.sought.now (ap (λ xs. list_any (stands_at c.args.sought.now) (map g.F.TypedFact.fact xs)) (sym all) ∙ c.loop-fact.invariant)

pub loop-fact-preserved : goal.loop-fact-preserved
loop-fact-preserved g c =
    let other : stands_at c.args.sought.now (g.F.TypedFact.fact c.fact-item.result) ≡ false = search rules in
    none_yet g.F.TypedFact.fact c.args.facts.now c.args.sought.now c.loop-fact.fact-index c.fact-item.result c.loop-fact-test.true c.fact-item.is other c.loop-fact.invariant
