use Rattle.std.proofs.Common.{[], ◌∷◌, Some, None, is_some, cond, refl, ap, ◌∙◌, sym}
use Rattle.std.proofs.lemmas.Result.{on_ok_weaker, on_err_weaker}
use Rattle.std.specs.BTreeMap.{is_at}
use Rattle.std.specs.Map.{lookup}
use Rattle.pcrf_values.specs.Ascending.{place}
use Rattle.bind_index.proofs.KeyedLists.{found_alike, changed_alike, changed, unchanged}
use Rattle.bind_index.proofs.lists.SessionLists.add.Goals as goal

pub returns-in-Some-clause-added : goal.returns-in-Some-clause-added
returns-in-Some-clause-added g c =
    let key = c.args.key.now in
    let es = c.self.inside.lists.entries in
    on_ok_weaker c.add.result
    (λ made. changed g.K.Ord.cmp g.met.K.Ord.total g.met.K.Ranked.same es _ c.self.view_is key _ (Some c.in-Some.ids.now) c.add.new.self (place g.S.Ord.cmp c.args.id.now)
    (c.in-Some.ensures.value ∙ found_alike g.K.Ord.cmp g.K.PartialEq.eq g.met.K.Ord.matches_eq es key)
    (changed_alike g.K.Ord.cmp g.K.PartialEq.eq g.met.K.Ord.matches_eq key (Some c.add.new.self) es _ ((c.get_mut.follows.holds c.add.new.self).3 (ap is_some (sym c.in-Some.ensures.value))).0) made)
    c.add.ensures.added

pub returns-in-Some-clause-unchanged : goal.returns-in-Some-clause-unchanged
returns-in-Some-clause-unchanged g c =
    let key = c.args.key.now in
    let es = c.self.inside.lists.entries in
    on_err_weaker c.add.result
    (λ made. unchanged g.K.Ord.cmp g.met.K.Ord.total g.met.K.Ranked.same es _ c.self.view_is key _ c.in-Some.ids.now c.add.new.self
    (c.in-Some.ensures.value ∙ found_alike g.K.Ord.cmp g.K.PartialEq.eq g.met.K.Ord.matches_eq es key)
    (changed_alike g.K.Ord.cmp g.K.PartialEq.eq g.met.K.Ord.matches_eq key (Some c.add.new.self) es _ ((c.get_mut.follows.holds c.add.new.self).3 (ap is_some (sym c.in-Some.ensures.value))).0) made)
    c.add.ensures.unchanged

pub returns-in-Ok-clause-added : goal.returns-in-Ok-clause-added
returns-in-Ok-clause-added g c =
    let cmp = g.K.Ord.cmp in
    let es = c.self.inside.lists.entries in
    let stays = ap (λ m. m.entries) c.get_mut.follows.holds-at-none in
    let value = c.of-ids.ensures ∙ ap (λ x. x ∷ []) c.in_ok-try_copy.ensures in
    changed g.K.Ord.cmp g.met.K.Ord.total g.met.K.Ranked.same es _ c.self.view_is c.args.key.now c.insert.new.self.entries None (place g.S.Ord.cmp c.args.id.now [])
    (place g.S.Ord.cmp c.args.id.now) (c.in_default.ensures.value ∙ found_alike g.K.Ord.cmp g.K.PartialEq.eq g.met.K.Ord.matches_eq es c.args.key.now)
    (λ q. changed_alike g.K.Ord.cmp g.K.PartialEq.eq g.met.K.Ord.matches_eq c.in_ok-key.key _ _ c.insert.new.self.entries c.in-Ok.ensures.updates.0 q ∙ (λ i. cond (is_at (cmp (c.in_ok-key.ensures i)) q) (Some (value i)) (lookup (is_at (cmp q)) (stays i))))
    refl
