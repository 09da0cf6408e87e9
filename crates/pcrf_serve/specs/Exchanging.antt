-- What an exchange of letters leaves: receipts, and entries of makers that rose by just those letters whose contents these receipts hold whole.
use Rattle.std.specs.Prelude.{◌≡◌, ℕ, ◌⊎◌, ◌==◌, Bool, true, false, List, [], ◌∷◌, All, filter, fold, length, slice_index_or, slice_set, ⊤}
use Rattle.std.specs.List.{AllZip}
use Rattle.pcrf_model.specs.Letters.{LetterBody, LetterValue, Range, Snapshot, Acknowledgement}
use Rattle.pcrf_model.specs.Cursors.{Cursor, maker_after, nothing_taken}
use Rattle.pcrf_model.specs.Replies.{ReplyValue, Done, Taken}
use Rattle.pcrf_model.specs.Steps.{SiteEvent, Ops, Whole}
use Rattle.site_lock.specs.Books.{ReceiptValue, SeatValue}
use Rattle.pcrf_serve.specs.Earlier.{Gains, with_receipts}
use Rattle.pcrf_serve.specs.Events.{IsExchange, IsPushToHost}

-- ---- letters and receipts

-- the reply says that all of what a letter brought was taken
abbrev pub takes_whole : SiteEvent → ReplyValue → Bool
takes_whole (Ops operations) (Taken count) = count == length operations
takes_whole (Whole holding) Done = true
takes_whole event reply = false

-- the receipt says so
abbrev pub holds_whole : ReceiptValue → Bool
holds_whole r = takes_whole r.event r.reply

-- a letter that says this brings what the event takes in; an acknowledgement brings nothing
abbrev pub Brings : LetterBody → SiteEvent → Type 0
Brings (Range from operations) event = event ≡ Ops operations
Brings (Snapshot holding length) event = event ≡ Whole holding
Brings (Acknowledgement maker epoch cursor) event = ⊥

-- the event takes in what letters bring
abbrev pub IsBrought : SiteEvent → Type 0
IsBrought (Ops operations) = ⊤
IsBrought (Whole holding) = ⊤
IsBrought event = ⊥

-- what a letter says that brings what the event takes in: a range from that position on, or all that is held with that length of the log
abbrev pub body_of : ℕ → SiteEvent → LetterBody
body_of at (Ops operations) = Range at operations
body_of at (Whole holding) = Snapshot holding at
body_of at event = Acknowledgement 0 0 0

-- the letter brings what the receipt holds
abbrev pub IsHeldBy : LetterValue → ReceiptValue → Type 0
IsHeldBy l r = Brings l.body r.event

-- of an exchange: what a letter brings is taken in, a letter is asked for, or a gateway is pushed to
abbrev pub IsOfExchange : SiteEvent → Type 0
IsOfExchange event = IsExchange event ⊎ IsPushToHost event

-- ---- a whole exchange

-- the makers' entries after a letter was taken whole
abbrev pub makers_after : List Cursor → LetterValue → List Cursor
makers_after makers l = slice_set makers l.site (maker_after l (slice_index_or makers l.site nothing_taken))

-- Each receipt that holds whole what letters bring is of one letter, and each of these letters has one such receipt, in order; other receipts are
-- of none. The makers' entries come from those before by the rule for letters that were taken, by just these letters.
abbrev pub MakersFollow : List Cursor → List ReceiptValue → List Cursor → Type 0
MakersFollow makers receipts after = (letters : List LetterValue) × AllZip IsHeldBy letters (filter holds_whole receipts) × (after ≡ fold makers_after makers letters)

-- the seat gained receipts of an exchange alone, and the makers' entries follow from them
abbrev pub Exchanged : SeatValue → SeatValue → List Cursor → List Cursor → Type 0
Exchanged s t makers after =
    (more : List ReceiptValue) × (t ≡ with_receipts s more) × All (λ r. IsOfExchange r.event) more × MakersFollow makers more after

-- ---- its calls

-- a receipt of an exchange that holds nothing whole that a letter brought
abbrev pub IsIdle : ReceiptValue → Type 0
IsIdle r = IsOfExchange r.event × (holds_whole r ≡ false)

-- the seat has gained one receipt, of that event, which says that all of it was taken
abbrev pub GainsWhole : SeatValue → SeatValue → SiteEvent → Type 0
GainsWhole s t event = (r : ReceiptValue) × (t ≡ with_receipts s (r ∷ [])) × (r.event ≡ event) × (holds_whole r ≡ true)

-- the seat has gained at most receipts of that event which don't say so
abbrev pub GainsPart : SeatValue → SeatValue → SiteEvent → Type 0
GainsPart s t event = Gains (λ r. (r.event ≡ event) × (holds_whole r ≡ false)) s t

-- what a letter brings that says this was taken whole, by one call; for an acknowledgement there is none
abbrev pub TakesIn : SeatValue → SeatValue → LetterBody → Type 0
TakesIn s t (Range from operations) = GainsWhole s t (Ops operations)
TakesIn s t (Snapshot holding length) = GainsWhole s t (Whole holding)
TakesIn s t (Acknowledgement maker epoch cursor) = t ≡ s
