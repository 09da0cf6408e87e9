use Rattle.std.proofs.Common.{◌≡◌, ℕ, ◌-◌, ◌<◌, ◌≤◌, length, refl, sym, ◌∙◌, arith}
use Rattle.std.proofs.lemmas.Option.{slice_get_past, slice_get_read}
use Rattle.watched_links.proofs.Newest.{none_found, one_found}
use Rattle.watched_links.proofs.shelf.Shelf.newest.Goals as goal

pub returns-in_default : goal.returns-in_default
returns-in_default c =
    let self = c.args.self.now in
    sym (none_found self.first c.args.key.now self.kept.items (sym (self.found c.args.key.now) ∙ sym c.in_default.ensures.value))

pub overflow_sub-place : goal.overflow_sub-place
overflow_sub-place c =
    let self = c.args.self.now in
    (one_found self.first c.in-Some.place.now c.args.key.now self.kept.items (sym (self.found c.args.key.now) ∙ sym c.in-Some.ensures.value)).0

pub returns-in-Some-get : goal.returns-in-Some-get
returns-in-Some-get c =
    let self = c.args.self.now in let items = self.kept.items in let at = c.in-Some.place.now - self.first in
    let within : at < length items = grind (arith, c.in-Some-get.ensures.variant) in
    let stands = one_found self.first c.in-Some.place.now c.args.key.now items (sym (self.found c.args.key.now) ∙ sym c.in-Some.ensures.value) in
    sym (slice_get_read items (length items) at c.in-Some-get.message.now refl within c.in-Some-get.ensures.lookup) ∙ stands.1

pub returns-in-None : goal.returns-in-None
returns-in-None c =
    let self = c.args.self.now in let items = self.kept.items in let at = c.in-Some.place.now - self.first in
    let past : length items ≤ at = grind (arith, c.in-None.ensures.variant) in
    let stands = one_found self.first c.in-Some.place.now c.args.key.now items (sym (self.found c.args.key.now) ∙ sym c.in-Some.ensures.value) in
    sym (slice_get_past items at past) ∙ stands.1
