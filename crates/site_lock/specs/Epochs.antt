-- In which epoch a call was answered, and what who waited is told.
use Rattle.std.specs.Prelude.{◌≡◌, ℕ, List, [], ◌∷◌, ◌++◌, ⊤}
use Rattle.pcrf_model.specs.Replies.{ReplyValue}
use Rattle.pcrf_model.specs.Steps.{SiteState}
use Rattle.site_machine.specs.Values.{reply_value}
use Rattle.site_book.specs.Books.{EntryValue, SeatValue}
use Rattle.site_lock.specs.declared.living.dated.Grown.{Grown}
use Rattle.site_lock.specs.declared.living.dated.Grown.TheVariants.{Told, BegunAnew}
use Rattle.site_lock.specs.LivingCalls.{IsAccount}
use Rattle.site_lock.specs.Deeds.{Deed, Entered, times_begun}

-- The seat's last call was answered when the site had begun anew so often: a history that leads from the opening to just this call has so many new
-- beginnings before it, and the seat has just a receipt for each of its entries in it.
abbrev pub IsAnswered : ℕ → SiteState → SeatValue → ℕ → Type 0
IsAnswered seats opening seat begun =
    (past : List Deed) × (x : EntryValue) × (x.seat ≡ seat.number) × (begun ≡ times_begun past)
    × IsAccount seats opening (past ++ Entered x ∷ []) seat

-- The seat found that the site had begun anew so often: a history that leads from the opening to something has so many new beginnings, and the seat has
-- just a receipt for each of its entries in it.
abbrev pub HasBegun : ℕ → SiteState → SeatValue → ℕ → Type 0
HasBegun seats opening seat begun = (history : List Deed) × (begun ≡ times_begun history) × IsAccount seats opening history seat

-- ---- what a call is told that waited for growth

-- of the reply, if there is one
abbrev pub IfTold : Grown → (ReplyValue → Type 0) → Type 0
IfTold (Told reply) P = P (reply_value reply)
IfTold (BegunAnew begun) P = ⊤

-- of how often the site began anew, if that is told
abbrev pub IfBegun : Grown → (ℕ → Type 0) → Type 0
IfBegun (Told reply) P = ⊤
IfBegun (BegunAnew begun) P = P begun
