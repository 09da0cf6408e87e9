use Rattle.std.proofs.Common.{◌≡◌, ◌∷◌, sym, ap, ◌∙◌, subst}
use Rattle.std.specs.BTreeSet.{insert_key}
use Rattle.pcrf_values.specs.Ascending.{Rises}
use Rattle.bind_index.specs.Lists.{IsBelowFirst}
use Rattle.bind_index.proofs.IdLists.{first_inserted, placed_first, placed_rises}
use Rattle.bind_index.proofs.lists.SessionIds.add_first.Goals as goal

pub invariant_of-self-in_default : goal.invariant_of-self-in_default
invariant_of-self-in_default g c =
    let x = c.self.inside.first in
    let xs = c.self.inside.others.keys in
    let id = c.args.id.now in
    let others : c.insert.new.self.keys ≡ x ∷ xs = c.in_default.ensures.keys ∙ ap (insert_key g.S.Ord.cmp xs) c.replace-first.ensures.value ∙ first_inserted g.S.Ord.cmp (record { total = g.met.S.Ord.total; same = g.met.S.Ranked.same }) x xs c.self.invariant in
    let first : c.replace-first.new.dest ≡ id = c.replace-first.ensures.after ∙ c.in_ok-id.ensures in
    let rises : Rises g.S.Ord.cmp (id ∷ x ∷ xs) = subst (λ l. Rises g.S.Ord.cmp l) (placed_first g.S.Ord.cmp (record { total = g.met.S.Ord.total; same = g.met.S.Ranked.same }) id x xs (subst (λ l. IsBelowFirst g.S.Ord.cmp id l) (sym c.self.view_is) c.requires)) (placed_rises g.S.Ord.cmp (record { total = g.met.S.Ord.total; same = g.met.S.Ranked.same }) id (x ∷ xs) c.self.invariant) in
    subst (λ l. Rises g.S.Ord.cmp l) (λ i. sym first i ∷ sym others i) rises

pub returns-clause-added : goal.returns-clause-added
returns-clause-added g c =
    let x = c.self.inside.first in
    let xs = c.self.inside.others.keys in
    let others : c.insert.new.self.keys ≡ c.args.self.now = c.in_default.ensures.keys ∙ ap (insert_key g.S.Ord.cmp xs) c.replace-first.ensures.value ∙ first_inserted g.S.Ord.cmp (record { total = g.met.S.Ord.total; same = g.met.S.Ranked.same }) x xs c.self.invariant ∙ c.self.view_is in
    let first : c.replace-first.new.dest ≡ c.args.id.now = c.replace-first.ensures.after ∙ c.in_ok-id.ensures in
    λ i. first i ∷ others i
