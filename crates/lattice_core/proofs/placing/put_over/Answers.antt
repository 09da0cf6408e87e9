use Rattle.std.proofs.Common.{◌≡◌, ◌∙◌, get_or, [], map, true, false, ap, sym, refl, rules}
use Rattle.std.specs.Ordering.{is_lt}
use Rattle.std.specs.Option.{option_cmp}
use Rattle.pcrf_values.specs.Values.{entry_cmp}
use Rattle.pcrf_values.specs.Facts.{position, entry}
use Rattle.lattice_core.proofs.FoundLaws.{In-made}
use Rattle.lattice_core.proofs.KeepLaws.{covered_at, covered_joins}
use Rattle.lattice_core.proofs.MergeLaws.{join_none}
use Rattle.lattice_core.proofs.PutLaws.{put_at}
use Rattle.lattice_core.proofs.ThereLaws.{set_places}
use Rattle.lattice_core.proofs.placing.put_over.Goals as goal

pub returns-then-is_lt-clause-joins : goal.returns-then-is_lt-clause-joins
returns-then-is_lt-clause-joins g c =
    let fact = g.F.TypedFact.fact in
    let x = c.index.result.now in
    let here : c.index.result.now ≡ get_or c.args.kept.now.items c.args.at c.index.result.now = search rules in
    let there = ap (λ y. position (fact y)) here ∙ c.requires.there c.index.result.now in
    let up : is_lt (option_cmp entry_cmp (entry (fact c.index.result.now)) (entry (fact c.args.fact))) ≡ true = cc in
    put_at fact c.args.kept.now.items _ c.args.at c.index.result.now c.args.fact c.requires.within here refl c.requires.field there up c.requires.held

pub returns-else-is_lt-clause-joins : goal.returns-else-is_lt-clause-joins
returns-else-is_lt-clause-joins g c =
    let fact = g.F.TypedFact.fact in
    let ks = map fact c.args.kept.now.items in
    let here : c.index.result.now ≡ get_or c.args.kept.now.items c.args.at c.index.result.now = search rules in
    let there = ap (λ y. position (fact y)) here ∙ c.requires.there c.index.result.now in
    let low : is_lt (option_cmp entry_cmp (entry (fact c.index.result.now)) (entry (fact c.args.fact))) ≡ false = cc in
    sym (covered_joins ks [] (fact c.args.fact) c.requires.held
    (covered_at ks (fact c.args.fact) (fact c.index.result.now) (In-made fact c.args.kept.now.items c.args.at c.index.result.now c.requires.within here) there low)
    ∙ join_none ks c.requires.held)

pub returns-then-is_lt-clause-places : goal.returns-then-is_lt-clause-places
returns-then-is_lt-clause-places g c =
    let fact = g.F.TypedFact.fact in
    let here : c.index.result.now ≡ get_or c.args.kept.now.items c.args.at c.index.result.now = search rules in
    let there = ap (λ y. position (fact y)) here ∙ c.requires.there c.index.result.now in
    set_places fact c.args.kept.now.items c.args.at c.index.result.now c.args.fact here there
