use Rattle.std.proofs.Common.{◌≡◌, ◌∙◌, ◌<◌, ◌≤◌, List, length, get_or, Some, None, Vec, Global, refl, sym, ap, subst, option_map, ltb-false, ltb-true}
use Rattle.std.specs.List.{slice_get}
use Rattle.std.proofs.lemmas.Option.{slice_get-map, slice_get_past, slice_get_read}
use Rattle.site_book.specs.Books.{ReceiptValue}
use Rattle.site_book.specs.Settling.{SettledValue}
use Rattle.site_book.proofs.settling.Settled.receipts.Goals as goal

pub returns-in_default : goal.returns-in_default
returns-in_default g c =
    let xs = c.self.inside.receipts.items in
    let past : slice_get xs c.args.seat ≡ None = slice_get_past xs c.args.seat
    (subst (λ (l : List (Vec ReceiptValue Global)). length l ≤ c.args.seat) c.deref.ensures.value (ltb-false c.args.seat _ (sym c.in_default.ensures.lookup.0))) in
    sym (ap (λ (s : SettledValue). slice_get s.receipts c.args.seat) (sym c.self.view_is) ∙ slice_get-map (λ (v : Vec ReceiptValue Global). v.items) xs c.args.seat ∙ ap (option_map (λ (v : Vec ReceiptValue Global). v.items)) past)

pub returns : goal.returns
returns g c =
    let xs = c.self.inside.receipts.items in
    let there : slice_get xs c.args.seat ≡ Some c.in-Some.receipts.now = slice_get_read xs _ c.args.seat c.in-Some.receipts.now refl
    (subst (λ (l : List (Vec ReceiptValue Global)). c.args.seat < length l) c.deref.ensures.value (ltb-true c.args.seat _ (sym c.in-Some.ensures.lookup.0)))
    (subst (λ (l : List (Vec ReceiptValue Global)). c.in-Some.receipts.now ≡ get_or l c.args.seat c.in-Some.receipts.now) c.deref.ensures.value c.in-Some.ensures.lookup.1) in
    sym (ap (λ (s : SettledValue). slice_get s.receipts c.args.seat) (sym c.self.view_is) ∙ slice_get-map (λ (v : Vec ReceiptValue Global). v.items) xs c.args.seat ∙ ap (option_map (λ (v : Vec ReceiptValue Global). v.items)) there ∙ ap Some (sym c.as_slice.ensures.value))
