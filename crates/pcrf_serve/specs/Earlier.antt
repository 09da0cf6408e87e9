-- Seats after further calls.
use Rattle.std.specs.Prelude.{◌≡◌, List, ◌++◌, All}
use Rattle.pcrf_model.specs.Steps.{SiteEvent}
use Rattle.site_lock.specs.Books.{ReceiptValue, SeatValue}

-- the seat with further receipts
abbrev pub with_receipts : SeatValue → List ReceiptValue → SeatValue
with_receipts s more = record { number = s.number; receipts = s.receipts ++ more }

-- the same seat, whose earlier receipts are a prefix of the later ones
abbrev pub HasEarlier : SeatValue → SeatValue → Type 0
HasEarlier s t = (more : List ReceiptValue) × (t ≡ with_receipts s more)

-- the same seat, whose earlier receipts are a prefix of the later ones, and each receipt behind them is such a one
abbrev pub Gains : (ReceiptValue → Type 0) → SeatValue → SeatValue → Type 0
Gains Is s t = (more : List ReceiptValue) × (t ≡ with_receipts s more) × All Is more

-- likewise, and the event of each receipt behind them is such a one
abbrev pub Adds : (SiteEvent → Type 0) → SeatValue → SeatValue → Type 0
Adds Is s t = Gains (λ r. Is r.event) s t
