use Rattle.std.proofs.Common.{Some, None, is_some, refl, sym, ap, ◌∙◌}
use Rattle.bind_index.specs.Lists.{ids_at, without}
use Rattle.bind_index.proofs.KeyedLists.{found_alike, changed_alike, changed, emptied, absent}
use Rattle.bind_index.proofs.lists.SessionLists.remove.Goals as goal

pub returns-in_default : goal.returns-in_default
returns-in_default g c = λ k.
    ap (λ m. ids_at g.K.Ord.cmp m k) (ap (λ m. m.entries) c.get_mut.follows.holds-at-none)
    ∙ absent g.K.Ord.cmp g.met.K.Ord.total g.met.K.Ranked.same c.self.inside.lists.entries _ c.self.view_is c.args.key.now (without g.S.Ord.cmp c.args.id.now) refl (c.in_default.ensures.value ∙ found_alike g.K.Ord.cmp g.K.PartialEq.eq g.met.K.Ord.matches_eq c.self.inside.lists.entries c.args.key.now) k

pub returns-then-remove : goal.returns-then-remove
returns-then-remove g c =
    let key = c.args.key.now in
    let es = c.self.inside.lists.entries in
    changed g.K.Ord.cmp g.met.K.Ord.total g.met.K.Ranked.same es _ c.self.view_is key _ (Some c.in-Some.ids.now) c.remove.new.self (without g.S.Ord.cmp c.args.id.now)
    (c.in-Some.ensures.value ∙ found_alike g.K.Ord.cmp g.K.PartialEq.eq g.met.K.Ord.matches_eq es key)
    (changed_alike g.K.Ord.cmp g.K.PartialEq.eq g.met.K.Ord.matches_eq key (Some c.remove.new.self) es _ ((c.get_mut.follows.holds c.remove.new.self).3 (ap is_some (sym c.in-Some.ensures.value))).0)
    (c.if-remove.ensures.left refl)

pub returns : goal.returns
returns g c =
    let key = c.args.key.now in
    let es = c.self.inside.lists.entries in
    emptied g.K.Ord.cmp g.met.K.Ord.total g.met.K.Ranked.same es _ c.self.view_is key _ c.remove-2.new.self.entries c.in-Some.ids.now c.remove.new.self (without g.S.Ord.cmp c.args.id.now)
    (c.in-Some.ensures.value ∙ found_alike g.K.Ord.cmp g.K.PartialEq.eq g.met.K.Ord.matches_eq es key)
    (changed_alike g.K.Ord.cmp g.K.PartialEq.eq g.met.K.Ord.matches_eq key (Some c.remove.new.self) es _ ((c.get_mut.follows.holds c.remove.new.self).3 (ap is_some (sym c.in-Some.ensures.value))).0)
    (changed_alike g.K.Ord.cmp g.K.PartialEq.eq g.met.K.Ord.matches_eq key None _ c.remove-2.new.self.entries c.remove-2.ensures.updates.0)
    (sym (c.if-remove.ensures.only refl))
