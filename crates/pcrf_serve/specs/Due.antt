-- Hosts of which nothing is to be asked.
use Rattle.std.specs.Prelude.{◌≡◌, ℕ, ◌-◌, ◌⊎◌, Bool, false, List, length, slice_get, Option, Some, None, option_map}
use Rattle.pcrf_model.specs.Steps.{SiteEvent}
use Rattle.site_lock.specs.Books.{ReceiptValue, SeatValue}
use Rattle.site_lock.specs.Calls.{FindsNoneAbandoned, FindsNothingDue}
use Rattle.pcrf_serve.specs.Events.{event_to}
use Rattle.site_lock.specs.Sites.{SiteValue}
use Rattle.pcrf_model.specs.Replies.{ReplyValue}
use Rattle.pcrf_serve.specs.declared.demand.Demand.{Demand}
use Rattle.pcrf_serve.specs.declared.demand.Demand.TheVariants.{Rules, Abort}
use Rattle.pcrf_serve.specs.Requests.{WasReplied, asks}

-- the last receipt is of this event
abbrev pub WasAsked : List ReceiptValue → SiteEvent → Type 0
WasAsked receipts event = option_map (λ r. r.event) (slice_get receipts (length receipts - 1)) ≡ Some event

-- the last receipt is of this demand on the host, and nothing is asked
abbrev pub WasToldNothing : Demand → List ℕ → List ReceiptValue → Type 0
WasToldNothing demand host receipts = (reply : ReplyValue) × WasAsked receipts (event_to demand host) × WasReplied receipts reply × (asks reply ≡ false)

-- the seat finds, without a call, that nothing is to be asked of the host
abbrev pub FindsNone : (SeatValue → SiteValue → Type 0) → Demand → SeatValue → List ℕ → Type 0
FindsNone Found Rules seat host = FindsNothingDue Found seat host
FindsNone Found Abort seat host = FindsNoneAbandoned Found seat host

-- Nothing was to be asked of the host: the seat's last call was this demand on it, and nothing is asked; or the seat found it so without a call.
abbrev pub NothingWasDue : (SeatValue → SiteValue → Type 0) → Demand → List ℕ → SeatValue → Type 0
NothingWasDue Found demand host seat = WasToldNothing demand host seat.receipts ⊎ FindsNone Found demand seat host
