-- Seats that keep their earlier receipts, call after call.
use Rattle.std.proofs.Common.{◌≡◌, List, [], ◌∷◌, ◌++◌, All, refl, sym, ap, ◌∙◌, append_assoc, append-nil}
use Rattle.std.proofs.lemmas.List.Elements.{All-nil, All-cons, All-append, All-weaker}
use Rattle.pcrf_model.specs.Replies.{ReplyValue}
use Rattle.pcrf_model.specs.Steps.{SiteEvent}
use Rattle.site_lock.specs.Books.{ReceiptValue, SeatValue, receipt_of}
use Rattle.site_lock.specs.Calls.{GainsReceipt}
use Rattle.pcrf_serve.specs.Earlier.{HasEarlier, Gains, with_receipts}

-- a seat that made no call
pub gains_same : (Is : ReceiptValue → Type 0) (s : SeatValue) → Gains Is s s
gains_same Is s = ([], ap (λ r. record s { receipts = r }) (sym (append-nil s.receipts)), All-nil Is)

-- a seat that is as it was
pub gains_equal : (Is : ReceiptValue → Type 0) (s t : SeatValue) → t ≡ s → Gains Is s t
gains_equal Is s t e = let same = gains_same Is s in (same.0, e ∙ same.1, same.2)

-- a seat that gained one receipt
pub gains_one : (Is : ReceiptValue → Type 0) (s t : SeatValue) (r : ReceiptValue) → t ≡ with_receipts s (r ∷ []) → Is r → Gains Is s t
gains_one Is s t r e is = (r ∷ [], e, All-cons Is r [] is (All-nil Is))

-- by a call
pub gains_called : (Is : ReceiptValue → Type 0) (s t : SeatValue) (e : SiteEvent) (reply : ReplyValue) → GainsReceipt s e reply t
    → ((r : ReceiptValue) → r.event ≡ e → r.reply ≡ reply → Is r) → Gains Is s t
gains_called Is s t e reply g is = let r = receipt_of g.0 e reply in gains_one Is s t r g.1 (is r refl refl)

-- one after the other
pub gains_then : (Is : ReceiptValue → Type 0) (s t u : SeatValue) → Gains Is s t → Gains Is t u → Gains Is s u
gains_then Is s t u a b = (
  a.0 ++ b.0,
  b.1 ∙ ap (λ x. with_receipts x b.0) a.1 ∙ ap (λ r. record s { receipts = r }) (append_assoc s.receipts a.0 b.0),
  All-append Is a.0 b.0 a.2 b.2,
)

-- receipts of one kind are of another
pub gains_weaker : (Is Also : ReceiptValue → Type 0) (s t : SeatValue) → ((r : ReceiptValue) → Is r → Also r) → Gains Is s t → Gains Also s t
gains_weaker Is Also s t weaker a = (a.0, a.1, All-weaker Is Also weaker a.0 a.2)

-- whatever they are
pub gains_earlier : (Is : ReceiptValue → Type 0) (s t : SeatValue) → Gains Is s t → HasEarlier s t
gains_earlier Is s t a = (a.0, a.1)
