use Rattle.std.proofs.Common.{◌≡◌, ◌∙◌, List, ◌++◌, map, ap, sym, subst}
use Rattle.pcrf_values.specs.Facts.{Fact}
use Rattle.pcrf_values.specs.Held.{kept_list, join_of}
use Rattle.pcrf_values.proofs.JoinedLaws.{held_twice}
use Rattle.lattice_core.specs.Orders.{Climbs}
use Rattle.lattice_core.proofs.MergeLaws.{kept_climbs, made_there}
use Rattle.lattice_core.proofs.record.RecordJoin.joined_copy.Goals as goal

pub merge_of-requires-clause-ours : goal.merge_of-requires-clause-ours
merge_of-requires-clause-ours g c =
    let fact = g.F.TypedFact.fact in
    subst (λ l. Climbs (map fact l)) (sym c.as_slice.ensures.value) (kept_climbs (map fact c.self.inside.items.items) c.self.invariant)

pub merge_of-requires-clause-theirs : goal.merge_of-requires-clause-theirs
merge_of-requires-clause-theirs g c =
    let fact = g.F.TypedFact.fact in
    subst (λ l. Climbs (map fact l)) (sym c.as_slice-2.ensures.value) (kept_climbs (map fact c.other.inside.items.items) c.other.invariant)

pub invariant_of-result : goal.invariant_of-result
invariant_of-result g c =
    let fact = g.F.TypedFact.fact in
    let all = ap (map fact) c.in_ok-items.ensures ∙ made_there fact c.as_slice-3.result.now ∙ ap (map (λ f. fact f.now)) c.as_slice-3.ensures.value ∙ c.merge_of.ensures in
    subst (λ (l : List Fact). kept_list l ≡ l) (sym all) (held_twice (map fact c.as_slice.result.now ++ map fact c.as_slice-2.result.now))

pub returns : goal.returns
returns g c =
    let fact = g.F.TypedFact.fact in
    let ours = ap (map fact) c.as_slice.ensures.value ∙ c.self.view_is in
    let theirs = ap (map fact) c.as_slice-2.ensures.value ∙ c.other.view_is in
    ap (map fact) c.in_ok-items.ensures ∙ made_there fact c.as_slice-3.result.now ∙ ap (map (λ f. fact f.now)) c.as_slice-3.ensures.value ∙ c.merge_of.ensures
    ∙ ap (λ l. join_of l (map fact c.as_slice-2.result.now)) ours ∙ ap (join_of c.args.self.now) theirs
