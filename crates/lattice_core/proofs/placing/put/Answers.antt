use Rattle.std.proofs.Common.{◌≡◌, List, map, take, drop, true, false, subst}
use Rattle.std.specs.List.{list_any}
use Rattle.pcrf_values.proofs.Plain.{clash}
use Rattle.pcrf_values.specs.Facts.{position}
use Rattle.lattice_core.specs.Beneath.{stands_at}
use Rattle.lattice_core.specs.Orders.{IsGap}
use Rattle.lattice_core.proofs.ThereLaws.{gap_none}
use Rattle.lattice_core.proofs.placing.put.Goals as goal

pub put_new-requires-clause-room : goal.put_new-requires-clause-room
put_new-requires-clause-room g c =
    let fact = g.F.TypedFact.fact in
    let i = c.in-Err.at in
    let p = position (fact c.args.fact) in
    let first = subst (λ q. IsGap q (map fact (take i c.as_slice.result.now)) (map fact (drop i c.as_slice.result.now))) c.position.ensures c.in-Err.ensures.absent in
    let gap = subst (λ l. IsGap p (map fact (take i l)) (map fact (drop i l))) c.as_slice.ensures.value first in
    c.requires.room (gap_none fact c.args.kept.now.items i p gap)

pub returns-in-Ok-clause-places : goal.returns-in-Ok-clause-places
returns-in-Ok-clause-places g c h = c.put_over.ensures.places

pub returns-in-Err-clause-places : goal.returns-in-Err-clause-places
returns-in-Err-clause-places g c h =
    let fact = g.F.TypedFact.fact in
    let i = c.in-Err.at in
    let p = position (fact c.args.fact) in
    let first = subst (λ q. IsGap q (map fact (take i c.as_slice.result.now)) (map fact (drop i c.as_slice.result.now))) c.position.ensures c.in-Err.ensures.absent in
    let gap = subst (λ l. IsGap p (map fact (take i l)) (map fact (drop i l))) c.as_slice.ensures.value first in
    clash (list_any (stands_at p) (map fact c.args.kept.now.items)) h (gap_none fact c.args.kept.now.items i p gap)
