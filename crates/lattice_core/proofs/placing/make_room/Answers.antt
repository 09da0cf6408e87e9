use Rattle.std.proofs.Common.{map, inl, inr, refl, arith, subst}
use Rattle.lattice_core.specs.Orders.{AreThere}
use Rattle.lattice_core.proofs.placing.make_room.Goals as goal

pub returns-then-are_there-clause-room : goal.returns-then-are_there-clause-room
returns-then-are_there-clause-room g c =
    let fact = g.F.TypedFact.fact in
    inl (subst (λ l. AreThere (map fact l) (map fact c.args.kept.now.items)) c.as_slice-2.ensures.value
    (subst (λ l. AreThere (map fact c.as_slice-2.result.now) (map fact l)) c.as_slice.ensures.value (c.if-are_there.ensures refl)))

pub returns-clause-room : goal.returns-clause-room
returns-clause-room g c = inr (omega (arith, c.in_ok-reserve.ensures))
