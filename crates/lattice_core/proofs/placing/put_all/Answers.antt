use Rattle.std.proofs.Common.{◌≡◌, ◌∙◌, List, ◌∷◌, [], ◌++◌, map, inl, inr, sym, ap, subst, arith}
use Rattle.std.specs.List.{list_any}
use Rattle.pcrf_values.proofs.Plain.{clash}
use Rattle.pcrf_values.specs.Facts.{Fact, position}
use Rattle.pcrf_values.specs.Held.{kept_list, join_of}
use Rattle.pcrf_values.proofs.JoinedLaws.{held_twice}
use Rattle.lattice_core.specs.Beneath.{stands_at}
use Rattle.lattice_core.proofs.ThereLaws.{same_places}
use Rattle.lattice_core.proofs.PutLaws.{last_in, front_in, popped_joins}
use Rattle.lattice_core.proofs.placing.put_all.Goals as goal

pub put-requires-clause-field : goal.put-requires-clause-field
put-requires-clause-field g c =
    let fact = g.F.TypedFact.fact in
    c.each.invariant.fields (fact c.in-Some.fact) (last_in fact c.each.left.items c.pop.new.self.items c.in-Some.fact c.in-Some.ensures.items)

pub put-requires-clause-room : goal.put-requires-clause-room
put-requires-clause-room g c none =
    let fact = g.F.TypedFact.fact in
    elim c.each.invariant.room [
      | inl there ↦ clash (list_any (stands_at (position (fact c.in-Some.fact))) (map fact c.each.kept.items)) (there (fact c.in-Some.fact) (last_in fact c.each.left.items c.pop.new.self.items c.in-Some.fact c.in-Some.ensures.items)) none
      | inr room ↦ omega (arith, room, c.in-Some.ensures.len)
    ]

pub each-preserved : goal.each-preserved
each-preserved g c =
    let fact = g.F.TypedFact.fact in
    let ks = map fact c.each.kept.items in
    record {
      held = subst (λ (l : List Fact). kept_list l ≡ l) (sym c.put.ensures.joins) (held_twice (ks ++ fact c.in-Some.fact ∷ []));
      joins = ap (λ (l : List Fact). join_of l (map fact c.pop.new.self.items)) c.put.ensures.joins ∙ popped_joins fact ks c.each.left.items c.pop.new.self.items c.in-Some.fact c.in-Some.ensures.items ∙ c.each.invariant.joins;
      fields = λ f i. c.each.invariant.fields f (front_in fact c.each.left.items c.pop.new.self.items c.in-Some.fact c.in-Some.ensures.items f i);
      room = elim c.each.invariant.room [
        | inl there ↦ inl (λ f i. same_places (position f) (map fact c.put.new.kept.items) ks (c.put.ensures.places (there (fact c.in-Some.fact) (last_in fact c.each.left.items c.pop.new.self.items c.in-Some.fact c.in-Some.ensures.items)))
            ∙ there f (front_in fact c.each.left.items c.pop.new.self.items c.in-Some.fact c.in-Some.ensures.items f i))
        | inr room ↦ inr (omega (arith, room, c.in-Some.ensures.len, c.put.ensures.len, c.put.ensures.capacity))
      ];
    }
