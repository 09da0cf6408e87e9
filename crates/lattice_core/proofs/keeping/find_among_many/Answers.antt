use Rattle.std.proofs.Common.{rules}
use Rattle.std.proofs.lemmas.Fn.{always_returns_same}
use Rattle.pcrf_values.specs.Places.{position_cmp}
use Rattle.pcrf_values.specs.Facts.{position}
use Rattle.lattice_core.proofs.FoundLaws.{found_there, found_none}
use Rattle.lattice_core.proofs.keeping.find_among_many.Goals as goal

pub returns-in-Ok : goal.returns-in-Ok
returns-in-Ok g c =
    let fact = g.F.TypedFact.fact in
    let at = c.in-Ok.ensures.position (λ x. position_cmp (position (fact x)) c.args.sought.now) (always_returns_same _ _ _ (λ a r f' called. (search rules, search rules))) in
    found_there fact c.args.facts.now c.args.sought.now c.in-Ok.at c.index-facts-at.result c.in-Ok.ensures.bound c.index-facts-at.is (at c.index-facts-at.result)

pub returns-in-Err : goal.returns-in-Err
returns-in-Err g c =
    let fact = g.F.TypedFact.fact in
    let parted = c.in-Err.ensures.position (λ x. position_cmp (position (fact x)) c.args.sought.now) (always_returns_same _ _ _ (λ a r f' called. (search rules, search rules))) in
    found_none fact c.args.facts.now c.args.sought.now c.in-Err.field-0 c.requires c.in-Err.ensures.bound parted
