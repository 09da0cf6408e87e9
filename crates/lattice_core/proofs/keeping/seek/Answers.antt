use Rattle.std.proofs.Common.{rules}
use Rattle.std.proofs.lemmas.Fn.{always_returns_same}
use Rattle.pcrf_values.specs.Places.{position_cmp}
use Rattle.pcrf_values.specs.Facts.{position}
use Rattle.lattice_core.proofs.PutLaws.{seen_found, seen_gap}
use Rattle.lattice_core.proofs.keeping.seek.Goals as goal

pub returns-clause-found : goal.returns-clause-found
returns-clause-found g c =
    let fact = g.F.TypedFact.fact in
    seen_found fact c.args.sought.now c.args.facts.now c.binary_search_by.result
    (c.binary_search_by.ensures.position (λ x. position_cmp (position (fact x)) c.args.sought.now) (always_returns_same _ _ _ (λ a r f' called. (search rules, search rules))))

pub returns-clause-absent : goal.returns-clause-absent
returns-clause-absent g c =
    let fact = g.F.TypedFact.fact in
    seen_gap fact c.args.sought.now c.args.facts.now c.binary_search_by.result c.requires
    (c.binary_search_by.ensures.position (λ x. position_cmp (position (fact x)) c.args.sought.now) (always_returns_same _ _ _ (λ a r f' called. (search rules, search rules))))
