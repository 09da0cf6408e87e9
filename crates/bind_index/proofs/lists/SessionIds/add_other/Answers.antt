use Rattle.std.proofs.Common.{◌≡◌, ◌∷◌, Greater, sym, ap, ◌∙◌, subst}
use Rattle.pcrf_values.specs.Ascending.{Rises, place}
use Rattle.bind_index.specs.Lists.{IsAboveFirst}
use Rattle.bind_index.proofs.IdLists.{inserted_is_placed, placed_behind, placed_rises}
use Rattle.bind_index.proofs.lists.SessionIds.add_other.Goals as goal

pub invariant_of-self-2 : goal.invariant_of-self-2
invariant_of-self-2 g c =
    let x = c.self.inside.first in
    let xs = c.self.inside.others.keys in
    let id = c.args.id.now in
    let above : g.S.Ord.cmp id x ≡ Greater = subst (λ l. IsAboveFirst g.S.Ord.cmp id l) (sym c.self.view_is) c.requires in
    let made : c.insert.new.self.keys ≡ place g.S.Ord.cmp id xs = c.in_default.ensures.keys ∙ inserted_is_placed g.S.Ord.cmp (record { total = g.met.S.Ord.total; same = g.met.S.Ranked.same }) c.in_ok-id.id xs ∙ ap (λ n. place g.S.Ord.cmp n xs) c.in_ok-id.ensures in
    subst (λ l. Rises g.S.Ord.cmp l) (placed_behind g.S.Ord.cmp (record { total = g.met.S.Ord.total; same = g.met.S.Ranked.same }) id x xs above ∙ ap (λ l. x ∷ l) (sym made)) (placed_rises g.S.Ord.cmp (record { total = g.met.S.Ord.total; same = g.met.S.Ranked.same }) id (x ∷ xs) c.self.invariant)

pub returns-clause-added : goal.returns-clause-added
returns-clause-added g c =
    let x = c.self.inside.first in
    let xs = c.self.inside.others.keys in
    let id = c.args.id.now in
    let above : g.S.Ord.cmp id x ≡ Greater = subst (λ l. IsAboveFirst g.S.Ord.cmp id l) (sym c.self.view_is) c.requires in
    let made : c.insert.new.self.keys ≡ place g.S.Ord.cmp id xs = c.in_default.ensures.keys ∙ inserted_is_placed g.S.Ord.cmp (record { total = g.met.S.Ord.total; same = g.met.S.Ranked.same }) c.in_ok-id.id xs ∙ ap (λ n. place g.S.Ord.cmp n xs) c.in_ok-id.ensures in
    ap (λ l. x ∷ l) made ∙ sym (placed_behind g.S.Ord.cmp (record { total = g.met.S.Ord.total; same = g.met.S.Ranked.same }) id x xs above) ∙ ap (place g.S.Ord.cmp id) c.self.view_is
