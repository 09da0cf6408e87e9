-- A book: a site with its opening and its history; seats with receipts.
use Rattle.std.specs.Prelude.{◌≡◌, ℕ, zero, suc, ◌+◌, leb, Bool, not, ◌&&◌, List, [], ◌∷◌, ◌++◌, map, length}
use Rattle.pcrf_values.specs.Limits.{delta_limit}
use Rattle.pcrf_model.specs.Replies.{ReplyValue}
use Rattle.pcrf_model.specs.Steps.{SiteState, SiteEvent, Replays}
use Rattle.site_machine.specs.Sites.{SiteValue, after_event}

-- the number of the seat that called, what happened, and what was replied
pub record EntryValue : Type 0 where
  pub seat : ℕ
  pub event : SiteEvent
  pub reply : ReplyValue

-- the place of an entry, what happened, and what was replied
pub record ReceiptValue : Type 0 where
  pub place : ℕ
  pub event : SiteEvent
  pub reply : ReplyValue

-- a seat's number, and a receipt for each of its calls, in order
pub record SeatValue : Type 0 where
  pub number : ℕ
  pub receipts : List ReceiptValue

-- what the site held and had made at first, the site as it is, the history, its limit, and the number of seats
pub record BookValue : Type 0 where
  pub opening : SiteState
  pub site : SiteValue
  pub history : List EntryValue
  pub limit : ℕ
  pub seats : ℕ

-- the event of an entry, with its reply
abbrev pub called : EntryValue → SiteEvent × ReplyValue
called e = (e.event, e.reply)

-- no entry can be added
abbrev pub is_full : BookValue → Bool
is_full b = leb b.limit (length b.history)

-- the site made no more operations itself than so many, and an entry can be added
abbrev pub is_short : BookValue → ℕ → Bool
is_short b past = not (is_full b) && leb (length b.site.state.log) past

abbrev pub entry_of : ℕ → SiteEvent → ReplyValue → EntryValue
entry_of seat event reply = record { seat = seat; event = event; reply = reply }

abbrev pub receipt_of : ℕ → SiteEvent → ReplyValue → ReceiptValue
receipt_of place event reply = record { place = place; event = event; reply = reply }

-- with a call of a seat: the site has made the step, and the history has it last
abbrev pub with_entry : BookValue → ℕ → SiteEvent → ReplyValue → BookValue
with_entry b seat event reply = record {
  opening = b.opening;
  site = after_event b.site event reply;
  history = b.history ++ entry_of seat event reply ∷ [];
  limit = b.limit;
  seats = b.seats;
}

-- with the receipt of a call
abbrev pub with_receipt : SeatValue → ℕ → SiteEvent → ReplyValue → SeatValue
with_receipt s place event reply = record { number = s.number; receipts = s.receipts ++ receipt_of place event reply ∷ [] }

-- the history leads a site from what it held and had made at first to what it holds and made: each reply is one that it may give there
abbrev pub LeadsTo : SiteState → List EntryValue → SiteValue → Type 0
LeadsTo opening history s = Replays delta_limit s.tables s.number opening (map called history) s.state

-- the history of a book leads from its opening to its site
abbrev pub IsHistoryOf : BookValue → Type 0
IsHistoryOf b = LeadsTo b.opening b.history b.site

-- a book over a site in which nothing has happened since
abbrev pub new_book : SiteValue → ℕ → ℕ → BookValue
new_book site seats limit = record { opening = site.state; site = site; history = []; limit = limit; seats = seats }

-- a seat that has not called
abbrev pub new_seat : ℕ → SeatValue
new_seat k = record { number = k; receipts = [] }

-- the seats below a number, none of which has called
abbrev pub new_seats : ℕ → List SeatValue
new_seats zero = []
new_seats (suc n) = new_seats n ++ new_seat n ∷ []
