-- When a book settles, and by which fault it does not.
use Rattle.std.specs.Prelude.{◌≡◌, ℕ, zero, suc, ◌+◌, ◌<◌, ◌==◌, ◌&&◌, ltb, Bool, true, false, if◌then◌else◌, ◌⊎◌, List, [], ◌∷◌, ◌++◌, map, length, Option, Some, None, slice_get, Vec}
use Rattle.std.specs.declared.alloc.Global.{Global}
use Rattle.pcrf_model.specs.Replies.{ReplyValue}
use Rattle.pcrf_model.specs.Steps.{SiteEvent}
use Rattle.site_book.specs.Books.{EntryValue, ReceiptValue, SeatValue, BookValue}
use Rattle.site_book.specs.declared.fault.SettleFault.{SettleFault}
use Rattle.site_book.specs.declared.fault.SettleFault.TheVariants.{MissingSeat, WrongPlace, WrongContent}

-- how many of the seats have that number
abbrev pub times : ℕ → List SeatValue → ℕ
times k [] = 0
times k (s ∷ ss) = (if s.number == k then 1 else 0) + times k ss

-- each number below n is that of one seat
abbrev pub EachOnce : ℕ → List SeatValue → Type 0
EachOnce n ss = (k : ℕ) → k < n → times k ss ≡ 1

-- how many receipts the seats have in all
abbrev pub receipts_in_all : List SeatValue → ℕ
receipts_in_all [] = 0
receipts_in_all (s ∷ ss) = length s.receipts + receipts_in_all ss

-- The seats are those of the book: their numbers are those below the number of seats, each once. And there are as many
-- receipts as entries.
pub record IsComplete (b : BookValue) (ss : List SeatValue) : Type 0 where
  pub count : length ss ≡ b.seats
  pub once : EachOnce b.seats ss
  pub calls : receipts_in_all ss ≡ length b.history

-- the receipts of the seat of that number
abbrev pub receipts_of : ℕ → List SeatValue → List ReceiptValue
receipts_of k [] = []
receipts_of k (s ∷ ss) = if s.number == k then s.receipts else receipts_of k ss

-- those of the seats below n, by their numbers
abbrev pub receipts_below : ℕ → List SeatValue → List (List ReceiptValue)
receipts_below zero ss = []
receipts_below (suc n) ss = receipts_below n ss ++ receipts_of n ss ∷ []

-- a receipt with the number of its seat, and the place of the seat's receipt before, if there is one
pub record Claim : Type 0 where
  pub seat : ℕ
  pub before : Option ℕ
  pub receipt : ReceiptValue

abbrev pub claim : ℕ → Option ℕ → ReceiptValue → Claim
claim k before r = record { seat = k; before = before; receipt = r }

-- those of one seat, in order
abbrev pub claims_of : ℕ → Option ℕ → List ReceiptValue → List Claim
claims_of k before [] = []
claims_of k before (r ∷ rs) = claim k before r ∷ claims_of k (Some r.place) rs

-- those of so many seats from a number on, by seats
abbrev pub claims_from : ℕ → ℕ → List SeatValue → List Claim
claims_from zero k ss = []
claims_from (suc n) k ss = claims_of k None (receipts_of k ss) ++ claims_from n (suc k) ss

-- the place is above that of the receipt before
abbrev pub is_above : Option ℕ → ℕ → Bool
is_above None place = true
is_above (Some before) place = ltb before place

-- there is an entry, of that seat
abbrev pub is_of_seat : ℕ → Option EntryValue → Bool
is_of_seat k None = false
is_of_seat k (Some e) = e.seat == k

-- the receipt is at a place of its seat, above the one before
abbrev pub is_placed : List EntryValue → Claim → Bool
is_placed history c = is_above c.before c.receipt.place && is_of_seat c.seat (slice_get history c.receipt.place)

-- the entry has the receipt's event and reply
abbrev pub IsContent : ReceiptValue → Option EntryValue → Type 0
IsContent r None = ⊥
IsContent r (Some e) = (r.event ≡ e.event) × (r.reply ≡ e.reply)

abbrev pub HasContent : List EntryValue → Claim → Type 0
HasContent history c = IsContent c.receipt (slice_get history c.receipt.place)

-- the receipt stands at its place, with its event and its reply
abbrev pub Stands : List EntryValue → Claim → Type 0
Stands history c = (is_placed history c ≡ true) × HasContent history c

-- it does not, by that fault
abbrev pub Fails : List EntryValue → Claim → SettleFault → Type 0
Fails history c MissingSeat = ⊥
Fails history c WrongPlace = is_placed history c ≡ false
Fails history c WrongContent = (is_placed history c ≡ true) × (HasContent history c → ⊥)

-- it stands, or fails by that fault
abbrev pub ClaimJudged : List EntryValue → Claim → Option SettleFault → Type 0
ClaimJudged history c None = Stands history c
ClaimJudged history c (Some f) = Fails history c f

-- each stands
abbrev pub AllStand : List EntryValue → List Claim → Type 0
AllStand history [] = Unit {0}
AllStand history (c ∷ cs) = Stands history c × AllStand history cs

-- one fails by that fault, and each before it stands
abbrev pub FirstFails : List EntryValue → List Claim → SettleFault → Type 0
FirstFails history [] f = ⊥
FirstFails history (c ∷ cs) f = Fails history c f ⊎ (Stands history c × FirstFails history cs f)

-- each stands, or the first that does not fails by that fault
abbrev pub Verdict : List EntryValue → List Claim → Option SettleFault → Type 0
Verdict history cs None = AllStand history cs
Verdict history cs (Some f) = FirstFails history cs f

-- the claims of all seats of a book
abbrev pub claims : BookValue → List SeatValue → List Claim
claims b ss = claims_from b.seats 0 ss

-- no fault stands
pub record Settles (b : BookValue) (ss : List SeatValue) : Type 0 where
  pub complete : IsComplete b ss
  pub stand : AllStand b.history (claims b ss)

-- the first fault that stands
abbrev pub FirstFault : BookValue → List SeatValue → SettleFault → Type 0
FirstFault b ss MissingSeat = IsComplete b ss → ⊥
FirstFault b ss f = IsComplete b ss × FirstFails b.history (claims b ss) f

-- no fault stands, or that one is the first
abbrev pub Judged : BookValue → List SeatValue → Option SettleFault → Type 0
Judged b ss None = Settles b ss
Judged b ss (Some f) = FirstFault b ss f

-- the place of the first seat of that number
abbrev pub place_in : ℕ → List SeatValue → ℕ
place_in k [] = 0
place_in k (s ∷ ss) = if s.number == k then 0 else (place_in k ss + 1)

-- lists that are owned
abbrev pub lists_of : List (Vec ReceiptValue Global) → List (List ReceiptValue)
lists_of vs = map (λ v. v.items) vs

-- a settled book, with the receipts of each seat
pub record SettledValue : Type 0 where
  pub book : BookValue
  pub receipts : List (List ReceiptValue)
