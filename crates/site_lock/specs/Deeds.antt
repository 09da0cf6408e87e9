-- What is done at a site, and the history of it. Entries, receipts and seats are those of a book.
use Rattle.std.specs.Prelude.{◌≡◌, ℕ, suc, ◌+◌, ◌<◌, ◌==◌, true, cond, if◌then◌else◌, min, ◌^◌, ◌-◌, List, [], ◌∷◌, ◌++◌, length, Option, option_map, slice_get}
use Rattle.pcrf_values.specs.Limits.{delta_limit}
use Rattle.pcrf_model.specs.Sessions.{Session}
use Rattle.pcrf_model.specs.Holdings.{Holding}
use Rattle.pcrf_model.specs.Tables.{Tables}
use Rattle.pcrf_model.specs.Steps.{SiteState, SiteEvent, MayReply, kept_state_after}
use Rattle.pcrf_model.specs.Replies.{ReplyValue}
use Rattle.site_machine.specs.Sites.{SiteValue, after_event, site_without}
use Rattle.site_machine.specs.Forgotten.{forgotten, has_ended}
use Rattle.site_book.specs.Books.{EntryValue, ReceiptValue, SeatValue, BookValue, entry_of, receipt_of}

-- a seat called; the site forgot which operations it made itself; or it forgot a session that had ended
pub data Deed : Type 0 where
  Entered : EntryValue → Deed
  BegunAnew : Deed
  Forgot : Session → Deed

-- a site, and the history that led to it
pub record ChronicleValue : Type 0 where
  pub site : SiteValue
  pub history : List Deed

-- what a keeper had the site do: of each new beginning how many calls came before it, and which sessions it forgot, in order
pub record KeptValue : Type 0 where
  pub beginnings : List ℕ
  pub forgot : List Session

-- who may have the site begin anew, and forget sessions: the epoch that the site started in, and what it had it do
pub record KeeperValue : Type 0 where
  pub first : ℕ
  pub beginnings : List ℕ
  pub forgot : List Session

-- the epoch of the site: one more with each new beginning
abbrev pub epoch_of : KeeperValue → ℕ
epoch_of k = k.first + length k.beginnings

-- with one new beginning more, with so many calls before it
abbrev pub begun_at : KeeperValue → ℕ → KeeperValue
begun_at k place = record { first = k.first; beginnings = k.beginnings ++ place ∷ []; forgot = k.forgot }

-- with these sessions forgotten too
abbrev pub forgot_more : KeeperValue → List Session → KeeperValue
forgot_more k sessions = record { first = k.first; beginnings = k.beginnings; forgot = k.forgot ++ sessions }

-- all that it holds, and no operation of its own
abbrev pub begun_anew : SiteState → SiteState
begun_anew s = record { holding = s.holding; log = [] }

-- without the facts of a session
abbrev pub state_without : SiteState → Session → SiteState
state_without s r = record { holding = forgotten s.holding r; log = s.log }

-- a single site may do it: it may forget a session of which its record shows the end
abbrev pub MayDo : Tables → ℕ → SiteState → Deed → Type 0
MayDo t i s (Entered x) = MayReply delta_limit t i s x.event x.reply
MayDo t i s BegunAnew = Unit {0}
MayDo t i s (Forgot r) = has_ended s.holding r ≡ true

-- the site after it
abbrev pub after : Tables → ℕ → SiteState → Deed → SiteState
after t i s (Entered x) = kept_state_after delta_limit t i s x.event x.reply
after t i s BegunAnew = begun_anew s
after t i s (Forgot r) = state_without s r

-- the deeds, in order, lead from the first state to the second, each reply being one that a single site may give there
abbrev pub Runs : Tables → ℕ → SiteState → List Deed → SiteState → Type 0
Runs t i s [] z = s ≡ z
Runs t i s (d ∷ ds) z = MayDo t i s d × Runs t i (after t i s d) ds z

-- the history leads a site from what it held and had made at first to what it holds and made
abbrev pub LeadsTo : SiteState → List Deed → SiteValue → Type 0
LeadsTo opening history s = Runs s.tables s.number opening history s.state

-- the entries of the calls
abbrev pub calls : List Deed → List EntryValue
calls [] = []
calls (Entered x ∷ ds) = x ∷ calls ds
calls (BegunAnew ∷ ds) = calls ds
calls (Forgot r ∷ ds) = calls ds

-- of each new beginning, how many calls came before it, where p came before the first
abbrev pub beginnings_from : ℕ → List Deed → List ℕ
beginnings_from p [] = []
beginnings_from p (Entered x ∷ ds) = beginnings_from (suc p) ds
beginnings_from p (BegunAnew ∷ ds) = p ∷ beginnings_from p ds
beginnings_from p (Forgot r ∷ ds) = beginnings_from p ds

abbrev pub beginnings : List Deed → List ℕ
beginnings history = beginnings_from 0 history

-- how often the site began anew
abbrev pub times_begun : List Deed → ℕ
times_begun history = length (beginnings history)

-- the sessions that the site forgot, in order
abbrev pub forgotten_in : List Deed → List Session
forgotten_in [] = []
forgotten_in (Entered x ∷ ds) = forgotten_in ds
forgotten_in (BegunAnew ∷ ds) = forgotten_in ds
forgotten_in (Forgot r ∷ ds) = r ∷ forgotten_in ds

-- what the keeper of a history has
abbrev pub kept_by : List Deed → KeptValue
kept_by history = record { beginnings = beginnings history; forgot = forgotten_in history }

-- the receipts for the entries of a seat, of which the first stands at place p
abbrev pub receipts_from : ℕ → ℕ → List EntryValue → List ReceiptValue
receipts_from k p [] = []
receipts_from k p (x ∷ xs) = cond (k == x.seat) (receipt_of p x.event x.reply ∷ receipts_from k (suc p) xs) (receipts_from k (suc p) xs)

-- a receipt for each entry of the seat, in order, with its place, and what happened and was replied
abbrev pub account : ℕ → List Deed → List ReceiptValue
account k history = receipts_from k 0 (calls history)

-- the seat is one of so many, and has just a receipt for each of its entries, in order
abbrev pub IsAccountOf : ℕ → List Deed → SeatValue → Type 0
IsAccountOf n history s = (s.number < n) × (s.receipts ≡ account s.number history)

-- each entry is of one of so many seats
abbrev pub OfSeats : ℕ → List EntryValue → Type 0
OfSeats n [] = Unit {0}
OfSeats n (x ∷ xs) = (x.seat < n) × OfSeats n xs

-- the book that was not kept: the opening, the site as it is, and the entries of the calls
abbrev pub as_book : ℕ → SiteState → ChronicleValue → BookValue
as_book seats opening c = record { opening = opening; site = c.site; history = calls c.history; limit = length (calls c.history); seats = seats }

-- with a call of a seat: the site has made the step, and the history has it last
abbrev pub with_call : ChronicleValue → ℕ → SiteEvent → ReplyValue → ChronicleValue
with_call c seat event reply = record { site = after_event c.site event reply; history = c.history ++ Entered (entry_of seat event reply) ∷ [] }

-- a site that holds the same, and made nothing itself
abbrev pub site_begun_anew : SiteValue → SiteValue
site_begun_anew s = record s { state = begun_anew s.state }

-- with a new beginning
abbrev pub with_beginning : ChronicleValue → ChronicleValue
with_beginning c = record { site = site_begun_anew c.site; history = c.history ++ BegunAnew ∷ [] }

-- with a session forgotten
abbrev pub with_forgotten : ChronicleValue → Session → ChronicleValue
with_forgotten c r = record { site = site_without c.site r; history = c.history ++ Forgot r ∷ [] }

-- with these forgotten, one after the other
abbrev pub with_all_forgotten : ChronicleValue → List Session → ChronicleValue
with_all_forgotten c [] = c
with_all_forgotten c (r ∷ rs) = with_all_forgotten (with_forgotten c r) rs

-- those of these sessions that have ended, each once: who is asked for again has nothing left that shows it
abbrev pub forgettable : Holding → List Session → List Session
forgettable h [] = []
forgettable h (r ∷ rs) = if has_ended h r then r ∷ forgettable (forgotten h r) rs else forgettable h rs

-- a site whose history begins
abbrev pub new_chronicle : SiteValue → ChronicleValue
new_chronicle site = record { site = site; history = [] }

-- a number as a count of 64 bits has it, which stays at its end
abbrev pub counted_to : ℕ → ℕ
counted_to n = min n (2 ^ 64 - 1)

-- how many calls of the site came before that of a receipt, as such a count has it
abbrev pub counted_place : ReceiptValue → ℕ
counted_place r = counted_to r.place

-- that of the last receipt, if there is one
abbrev pub last_place : List ReceiptValue → Option ℕ
last_place receipts = option_map counted_place (slice_get receipts (length receipts - 1))
