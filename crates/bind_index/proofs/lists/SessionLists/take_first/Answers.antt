use Rattle.std.proofs.Common.{Some, None, is_some, drop, refl, sym, ap, ◌∙◌, subst}
use Rattle.pcrf_values.specs.Ascending.{Rises}
use Rattle.bind_index.specs.Lists.{first_of, ids_at, ids_or_none}
use Rattle.bind_index.proofs.KeyedLists.{found_alike, changed_alike, changed, emptied, absent}
use Rattle.bind_index.proofs.lists.SessionLists.take_first.Goals as goal

pub returns-in_default-clause-first : goal.returns-in_default-clause-first
returns-in_default-clause-first g c =
    ap (λ o. first_of (ids_or_none o)) (c.in_default.ensures.value ∙ found_alike g.K.Ord.cmp g.K.PartialEq.eq g.met.K.Ord.matches_eq c.self.inside.lists.entries c.args.key.now) ∙ ap (λ m. first_of (ids_at g.K.Ord.cmp m c.args.key.now)) c.self.view_is

pub returns-in_default-clause-rest : goal.returns-in_default-clause-rest
returns-in_default-clause-rest g c = λ k.
    ap (λ m. ids_at g.K.Ord.cmp m k) (ap (λ m. m.entries) c.get_mut.follows.holds-at-none)
    ∙ absent g.K.Ord.cmp g.met.K.Ord.total g.met.K.Ranked.same c.self.inside.lists.entries _ c.self.view_is c.args.key.now (drop 1) refl (c.in_default.ensures.value ∙ found_alike g.K.Ord.cmp g.K.PartialEq.eq g.met.K.Ord.matches_eq c.self.inside.lists.entries c.args.key.now) k

pub returns-in_default-clause-rises : goal.returns-in_default-clause-rises
returns-in_default-clause-rises g c =
    let none = ap ids_or_none (c.in_default.ensures.value ∙ found_alike g.K.Ord.cmp g.K.PartialEq.eq g.met.K.Ord.matches_eq c.self.inside.lists.entries c.args.key.now) ∙ ap (λ m. ids_at g.K.Ord.cmp m c.args.key.now) c.self.view_is in
    subst (λ l. Rises g.S.Ord.cmp l) none tt

pub returns-in-Some-take_first-clause-first : goal.returns-in-Some-take_first-clause-first
returns-in-Some-take_first-clause-first g c =
    let here = ap ids_or_none (c.in-Some.ensures.value ∙ found_alike g.K.Ord.cmp g.K.PartialEq.eq g.met.K.Ord.matches_eq c.self.inside.lists.entries c.args.key.now) ∙ ap (λ m. ids_at g.K.Ord.cmp m c.args.key.now) c.self.view_is in
    ap first_of (sym c.in-Some-take_first.ensures.first ∙ here)

pub returns-in-Some-take_first-clause-rest : goal.returns-in-Some-take_first-clause-rest
returns-in-Some-take_first-clause-rest g c =
    let key = c.args.key.now in
    let es = c.self.inside.lists.entries in
    changed g.K.Ord.cmp g.met.K.Ord.total g.met.K.Ranked.same es _ c.self.view_is key _ (Some c.in-Some.ids.now) c.take_first.new.self (drop 1)
    (c.in-Some.ensures.value ∙ found_alike g.K.Ord.cmp g.K.PartialEq.eq g.met.K.Ord.matches_eq es key)
    (changed_alike g.K.Ord.cmp g.K.PartialEq.eq g.met.K.Ord.matches_eq key (Some c.take_first.new.self) es _ ((c.get_mut.follows.holds c.take_first.new.self).3 (ap is_some (sym c.in-Some.ensures.value))).0)
    (sym (ap (drop 1) c.in-Some-take_first.ensures.first))

pub returns-clause-rest : goal.returns-clause-rest
returns-clause-rest g c =
    let key = c.args.key.now in
    let es = c.self.inside.lists.entries in
    emptied g.K.Ord.cmp g.met.K.Ord.total g.met.K.Ranked.same es _ c.self.view_is key _ c.remove.new.self.entries c.in-Some.ids.now c.take_first.new.self (drop 1)
    (c.in-Some.ensures.value ∙ found_alike g.K.Ord.cmp g.K.PartialEq.eq g.met.K.Ord.matches_eq es key)
    (changed_alike g.K.Ord.cmp g.K.PartialEq.eq g.met.K.Ord.matches_eq key (Some c.take_first.new.self) es _ ((c.get_mut.follows.holds c.take_first.new.self).3 (ap is_some (sym c.in-Some.ensures.value))).0)
    (changed_alike g.K.Ord.cmp g.K.PartialEq.eq g.met.K.Ord.matches_eq key None _ c.remove.new.self.entries c.remove.ensures.updates.0)
    (sym c.in_default-take_first.ensures.only)

pub returns-clause-rises : goal.returns-clause-rises
returns-clause-rises g c =
    let here = ap ids_or_none (c.in-Some.ensures.value ∙ found_alike g.K.Ord.cmp g.K.PartialEq.eq g.met.K.Ord.matches_eq c.self.inside.lists.entries c.args.key.now) ∙ ap (λ m. ids_at g.K.Ord.cmp m c.args.key.now) c.self.view_is in
    subst (λ l. Rises g.S.Ord.cmp l) here c.take_first.ensures.ascending
