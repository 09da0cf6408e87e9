use Rattle.std.proofs.Common.{rules, ◌≡◌, List, ◌++◌, map, refl, sym, subst, ap, ◌∙◌}
use Rattle.std.proofs.lemmas.Fn.{always_returns_same}
use Rattle.std.proofs.lemmas.List.MinMax.{ranks_by}
use Rattle.std.specs.Ordering.{is_lt}
use Rattle.pcrf_values.specs.Facts.{Fact, fact_cmp}
use Rattle.pcrf_values.specs.Held.{kept_list, join_of}
use Rattle.pcrf_values.proofs.FactLaws.{fact_ranked}
use Rattle.pcrf_values.proofs.JoinedLaws.{held_twice}
use Rattle.lattice_core.specs.Orders.{Climbs}
use Rattle.lattice_core.proofs.RecordLaws.{sorted_climbs, sorted_kept}
use Rattle.lattice_core.proofs.record.Record.of_facts.Goals as goal

pub merge-requires-clause-ours : goal.merge-requires-clause-ours
merge-requires-clause-ours g c =
    let fact = g.F.TypedFact.fact in
    let same : c.from.result.items ≡ c.sort_unstable_by.new.self.items = cc in
    subst (λ l. Climbs (map fact l)) (sym same)
    (sorted_climbs fact c.sort_unstable_by.new.self.items
    (c.sort_unstable_by.ensures.sorted (λ x y. is_lt (fact_cmp (fact x) (fact y))) (ranks_by fact_ranked.total fact)
    (always_returns_same _ _ _ (λ a r f' called. (ap is_lt (search rules), search rules)))))

pub invariant_of-result : goal.invariant_of-result
invariant_of-result g c = subst (λ l. kept_list (map g.F.TypedFact.fact l) ≡ map g.F.TypedFact.fact l) c.as_slice.ensures.value (c.if-are_kept.ensures.kept refl)

pub invariant_of-result-2 : goal.invariant_of-result-2
invariant_of-result-2 g c = subst (λ (l : List Fact). kept_list l ≡ l) (sym c.merge.ensures) (held_twice (map g.F.TypedFact.fact c.from.result.items ++ map g.F.TypedFact.fact c.new-none.result.items))

pub returns : goal.returns
returns g c =
    let fact = g.F.TypedFact.fact in
    let same : c.from.result.items ≡ c.sort_unstable_by.new.self.items = cc in
    c.merge.ensures ∙ ap (λ l. join_of (map fact l) (map fact c.new-none.result.items)) same
    ∙ sorted_kept fact c.args.facts.items c.sort_unstable_by.new.self.items c.new-none.result.items c.sort_unstable_by.ensures.permutation c.new-none.ensures.items
