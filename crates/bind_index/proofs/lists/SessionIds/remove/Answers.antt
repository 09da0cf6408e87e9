use Rattle.std.proofs.Common.{◌≡◌, ◌∷◌, true, false, rules, sym, ap, ◌∙◌, subst}
use Rattle.std.specs.Ordering.{is_eq}
use Rattle.pcrf_values.specs.Ascending.{Rises}
use Rattle.bind_index.specs.Lists.{without}
use Rattle.bind_index.proofs.IdLists.{first_left_out, other_left_out, left_rises}
use Rattle.bind_index.proofs.lists.SessionIds.remove.Goals as goal

pub invariant_of-self : goal.invariant_of-self
invariant_of-self g c =
    let x = c.self.inside.first in
    let xs = c.self.inside.others.keys in
    let id = c.args.id.now in
    let apart : is_eq (g.S.Ord.cmp id x) ≡ false = search rules in
    let left : x ∷ c.remove.new.self.keys ≡ without g.S.Ord.cmp id (x ∷ xs) = ap (λ l. x ∷ l) c.remove.ensures.keys ∙ other_left_out g.S.Ord.cmp (record { total = g.met.S.Ord.total; same = g.met.S.Ranked.same }) id x xs c.self.invariant apart in
    subst (λ l. Rises g.S.Ord.cmp l) (sym left) (left_rises g.S.Ord.cmp (record { total = g.met.S.Ord.total; same = g.met.S.Ranked.same }) id (x ∷ xs) c.self.invariant)

pub returns-then-not-is_eq-clause-left : goal.returns-then-not-is_eq-clause-left
returns-then-not-is_eq-clause-left g c = λ _.
    let x = c.self.inside.first in
    let xs = c.self.inside.others.keys in
    let id = c.args.id.now in
    let apart : is_eq (g.S.Ord.cmp id x) ≡ false = search rules in
    ap (λ l. x ∷ l) c.remove.ensures.keys ∙ other_left_out g.S.Ord.cmp (record { total = g.met.S.Ord.total; same = g.met.S.Ranked.same }) id x xs c.self.invariant apart ∙ ap (without g.S.Ord.cmp id) c.self.view_is

pub returns-clause-left : goal.returns-clause-left
returns-clause-left g c = λ _.
    let x = c.self.inside.first in
    let xs = c.self.inside.others.keys in
    let id = c.args.id.now in
    let first : is_eq (g.S.Ord.cmp id x) ≡ true = search rules in
    sym c.in-Some.ensures.removal ∙ sym (first_left_out g.S.Ord.cmp (record { total = g.met.S.Ord.total; same = g.met.S.Ranked.same }) id x xs c.self.invariant first) ∙ ap (without g.S.Ord.cmp id) c.self.view_is
