use Rattle.std.proofs.Common.{◌≡◌, ◌∙◌, List, ◌++◌, map, refl, ap, sym, subst}
use Rattle.pcrf_values.specs.Facts.{Fact}
use Rattle.pcrf_values.specs.Held.{kept_list, join_of}
use Rattle.pcrf_values.proofs.JoinedLaws.{held_twice}
use Rattle.lattice_core.specs.Orders.{Climbs}
use Rattle.lattice_core.proofs.MergeLaws.{kept_climbs}
use Rattle.lattice_core.proofs.record.RecordJoin.join_in.Goals as goal

pub returns-then-adds_nothing-clause-joins : goal.returns-then-adds_nothing-clause-joins
returns-then-adds_nothing-clause-joins g c =
    let fact = g.F.TypedFact.fact in
    let ours = ap (map fact) c.as_slice.ensures.value ∙ c.self.view_is in
    let theirs = ap (map fact) c.as_slice-2.ensures.value ∙ c.other.view_is in
    sym ours ∙ c.if-adds_nothing.ensures refl ∙ ap (λ l. join_of l (map fact c.as_slice-2.result.now)) ours ∙ ap (join_of c.args.self.now) theirs

pub merge-requires-clause-ours : goal.merge-requires-clause-ours
merge-requires-clause-ours g c =
    let fact = g.F.TypedFact.fact in
    let same : c.from.result.items ≡ c.self.inside.items.items = cc in
    subst (λ l. Climbs (map fact l)) (sym same) (kept_climbs (map fact c.self.inside.items.items) c.self.invariant)

pub merge-requires-clause-theirs : goal.merge-requires-clause-theirs
merge-requires-clause-theirs g c =
    let fact = g.F.TypedFact.fact in
    let same : c.from-2.result.items ≡ c.other.inside.items.items = cc in
    subst (λ l. Climbs (map fact l)) (sym same) (kept_climbs (map fact c.other.inside.items.items) c.other.invariant)

pub invariant_of-self-2 : goal.invariant_of-self-2
invariant_of-self-2 g c = subst (λ (l : List Fact). kept_list l ≡ l) (sym c.merge.ensures) (held_twice (map g.F.TypedFact.fact c.from.result.items ++ map g.F.TypedFact.fact c.from-2.result.items))

pub invariant_of-self : goal.invariant_of-self
invariant_of-self g c = subst (λ l. kept_list (map g.F.TypedFact.fact l) ≡ map g.F.TypedFact.fact l) (sym c.in-Err.ensures.items) c.self.invariant

pub invariant_of-self-then-are_fields : goal.invariant_of-self-then-are_fields
invariant_of-self-then-are_fields g c = subst (λ (l : List Fact). kept_list l ≡ l) (sym c.put_all.ensures) (held_twice (map g.F.TypedFact.fact c.make_room.new.kept.items ++ map g.F.TypedFact.fact c.other.inside.items.items))
