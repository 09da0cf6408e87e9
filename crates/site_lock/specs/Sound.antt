-- What is true of a site with its history whenever nobody is at it, and of the notes of new seats.
use Rattle.std.specs.Prelude.{◌≡◌, ℕ, ◌<◌, List, [], ◌∷◌, length, slice_index_or, slice_index}
use Rattle.site_lock.specs.declared.notes.Original.{Original}
use Rattle.site_lock.specs.declared.notes.Duplicate.{Duplicate}
use Rattle.pcrf_model.specs.Holdings.{kept_of}
use Rattle.pcrf_model.specs.Steps.{SiteState}
use Rattle.site_machine.specs.Sites.{SiteValue}
use Rattle.site_book.specs.Books.{ReceiptValue}
use Rattle.site_lock.specs.Deeds.{Deed, KeptValue, LeadsTo, calls, kept_by, account, OfSeats, counted_to}

-- the note of a seat is under the seat's name, and says just the receipts for the seat's entries
abbrev pub IsChair : (ℕ → ℕ) → List Deed → ℕ → Original (List ReceiptValue) → Type 0
IsChair name history k c = (c.name ≡ name k) × (c.note ≡ account k history)

-- The history leads from the opening to the site, and the count is that of its entries. Each seat has a chair, and no entry is of
-- another seat. The keeper's note says just the new beginnings and the sessions that were forgotten, and the count is that of the former.
pub record IsSound (name : ℕ → ℕ) (seats keeper : ℕ) (opening : SiteState) (site : SiteValue) (count times : ℕ) (history : Original (List Deed)) (beside : Duplicate (List Deed)) (chairs : List (Original (List ReceiptValue))) (begun : Original KeptValue) : Type 0 where
  pub kept : kept_of opening.holding ≡ opening.holding
  pub replays : LeadsTo opening history.note site
  pub counted : count ≡ counted_to (length (calls history.note))
  pub one_note : beside.name ≡ history.name
  pub many : length chairs ≡ seats
  pub chairs_are : (k : ℕ) (d : Original (List ReceiptValue)) → k < length chairs → IsChair name history.note k (slice_index_or chairs k d)
  pub seated : OfSeats seats (calls history.note)
  pub keeper_is : begun.name ≡ keeper
  pub begun_are : begun.note ≡ kept_by history.note
  pub times_are : times ≡ length begun.note.beginnings

-- the two copies of each note, which is empty
abbrev pub AreBlank : List (Original (List ReceiptValue)) → List (Duplicate (List ReceiptValue)) → Type 0
AreBlank [] [] = Unit {0}
AreBlank (c ∷ cs) (d ∷ ds) = (d.name ≡ c.name) × (c.note ≡ []) × (d.note ≡ []) × AreBlank cs ds
AreBlank cs ds = ⊥

-- of the one note of a keeper
abbrev pub IsBlank : Original KeptValue → Duplicate KeptValue → Type 0
IsBlank c d = (d.name ≡ c.name) × (c.note ≡ kept_by []) × (d.note ≡ kept_by [])

-- the names of new notes: of the seats, in order, and of the keeper
pub record Names : Type 0 where
  pub seats : List ℕ
  pub keeper : ℕ

-- so many names, in order
abbrev pub AreNames : (ℕ → ℕ) → ℕ → List ℕ → Type 0
AreNames name seats names = (length names ≡ seats) × ((k : ℕ) → k < seats → slice_index names k ≡ name k)

-- each is the note of a seat, under its name, and empty
abbrev pub AreSeatNotes : (ℕ → ℕ) → List (Duplicate (List ReceiptValue)) → Type 0
AreSeatNotes name notes = (k : ℕ) (d : Duplicate (List ReceiptValue)) → k < length notes → ((slice_index_or notes k d).name ≡ name k) × ((slice_index_or notes k d).note ≡ [])
