use Rattle.std.proofs.Common.{◌≡◌, ◌<◌, ◌==◌, true, length, map, get_or, ap, sym, ◌∙◌, rules}
use Rattle.std.proofs.lemmas.List.{get_or-map, length-map}
use Rattle.std.proofs.lemmas.List.Folds.{list_any_at}
use Rattle.rx_profile.proofs.component.has_number.Goals as goal

pub returns-then-number : goal.returns-then-number
returns-then-number g c =
    let number_of = g.T.Numbered.number_of in
    let at : get_or (map number_of c.args.items.now) c.loop-item.item-index (number_of c.item-item.result) ≡ number_of c.item-item.result = get_or-map number_of c.args.items.now c.loop-item.item-index c.item-item.result (number_of c.item-item.result) c.loop-item-test.true ∙ ap number_of (sym c.item-item.is) in
    let same : (number_of c.item-item.result == c.args.number) ≡ true = search rules in
    let within : c.loop-item.item-index < length (map number_of c.args.items.now) = rw length-map c.loop-item-test.true in
    sym (list_any_at (λ m. m == c.args.number) (map number_of c.args.items.now) c.loop-item.item-index (number_of c.item-item.result) within (rw at same))
