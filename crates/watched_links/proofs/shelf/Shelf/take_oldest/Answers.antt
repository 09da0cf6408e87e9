use Rattle.std.proofs.Common.{◌≡◌, ℕ, ◌+◌, ◌==◌, Some, length, sym, ap, ◌∙◌, arith}
use Rattle.std.specs.HashMap.{get}
use Rattle.watched_links.specs.Keys.{same_key}
use Rattle.watched_links.proofs.Newest.{not_some, out_known, some_same, stay_known}
use Rattle.watched_links.proofs.shelf.Shelf.take_oldest.Goals as goal

pub invariant_of-self-then-newest-place-clause-found : goal.invariant_of-self-then-newest-place-clause-found
invariant_of-self-then-newest-place-clause-found c =
    let self = c.args.self.now in let kept = c.pop_back.new.self.items in
    let same : c.in-Some-get.newest.now ≡ self.first + length kept = grind (arith, c.if-newest-place.true, c.len.ensures) in
    out_known self.first (get same_key self.newest) c.in-Some.oldest self.kept.items kept self.found c.in-Some.ensures.items
    (get same_key c.remove.new.self) (sym c.in-Some-get.ensures.value ∙ ap Some same) c.remove.ensures.updates.0

pub invariant_of-self-else-newest-place-clause-found : goal.invariant_of-self-else-newest-place-clause-found
invariant_of-self-else-newest-place-clause-found c =
    let self = c.args.self.now in let kept = c.pop_back.new.self.items in
    stay_known self.first (get same_key self.newest) c.in-Some.oldest self.kept.items kept self.found c.in-Some.ensures.items
    (λ last.
    let same : c.in-Some-get.newest.now ≡ self.first + length kept = some_same c.in-Some-get.newest.now (self.first + length kept) (c.in-Some-get.ensures.value ∙ last) in
    grind (arith, c.if-newest-place.false, c.len.ensures, same))

pub invariant_of-self-in_default-get-clause-found : goal.invariant_of-self-in_default-get-clause-found
invariant_of-self-in_default-get-clause-found c =
    let self = c.args.self.now in let kept = c.pop_back.new.self.items in
    stay_known self.first (get same_key self.newest) c.in-Some.oldest self.kept.items kept self.found c.in-Some.ensures.items
    (λ last. not_some (get same_key self.newest c.in-Some.oldest.key) (self.first + length kept) c.in_default-get.ensures.value last)
