use Rattle.std.proofs.Common.{rules, ◌∙◌}
use Rattle.std.proofs.lemmas.Fn.{always_returns_same}
use Rattle.pcrf_values.specs.Facts.{fact_cmp}
use Rattle.lattice_core.proofs.RecordLaws.{found_fact}
use Rattle.lattice_core.proofs.record.has_fact.Goals as goal

pub returns : goal.returns
returns g c =
    let fact = g.F.TypedFact.fact in
    let facts = c.binary_search_by-found.ensures in
    let by_order = facts.position (λ x. fact_cmp (fact x) (fact c.args.sought.now)) (always_returns_same _ _ _ (λ a r f' called. (search rules, search rules))) in
    c.is_ok.ensures.value ∙ found_fact fact c.args.facts.now (fact c.args.sought.now) c.requires c.binary_search_by-found.result facts.bound by_order
