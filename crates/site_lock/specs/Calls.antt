-- What a call leaves to its seat.
use Rattle.std.specs.Prelude.{◌≡◌, ◌<◌, ℕ, List}
use Rattle.pcrf_model.specs.Replies.{ReplyValue, Own, Copy}
use Rattle.pcrf_model.specs.Steps.{SiteEvent}
use Rattle.site_machine.specs.Sites.{NoneAbandoned, OwesNothing, SiteValue}
use Rattle.site_book.specs.Books.{SeatValue, with_receipt}

-- one more receipt, of that event and that reply, at the place of some entry
abbrev pub GainsReceipt : SeatValue → SiteEvent → ReplyValue → SeatValue → Type 0
GainsReceipt before event reply after = (place : ℕ) × (after ≡ with_receipt before place event reply)

-- a reply that tells how many operations the site made itself tells more than so many
abbrev pub TellsPast : ℕ → ReplyValue → Type 0
TellsPast past (Own operations length) = past < length
TellsPast past (Copy holding length) = past < length
TellsPast past r = Unit {0}

-- a seat finds that nothing is due to the host, where it may find the site so
abbrev pub FindsNothingDue : (SeatValue → SiteValue → Type 0) → SeatValue → List ℕ → Type 0
FindsNothingDue Found seat host = (site : SiteValue) × Found seat site × OwesNothing site host

-- and that no session of the host is to be asked to abort
abbrev pub FindsNoneAbandoned : (SeatValue → SiteValue → Type 0) → SeatValue → List ℕ → Type 0
FindsNoneAbandoned Found seat host = (site : SiteValue) × Found seat site × NoneAbandoned site host
