-- A history of three calls, for the worked examples of what settles.
use Rattle.std.specs.Prelude.{ℕ, Bool, List, [], ◌∷◌, Option}
use Rattle.pcrf_model.specs.Replies.{ReplyValue}
use Rattle.pcrf_model.specs.Steps.{SiteEvent}
use Rattle.site_book.specs.Books.{EntryValue, entry_of, receipt_of}
use Rattle.site_book.specs.Settling.{claim, is_placed}

-- the first seat called, the second, and the first again, each with this event and this reply
abbrev pub three_calls : SiteEvent → ReplyValue → List EntryValue
three_calls e r = entry_of 0 e r ∷ entry_of 1 e r ∷ entry_of 0 e r ∷ []

-- the receipt that a seat has behind the one before names a place of its own
abbrev pub is_placed_there : SiteEvent → ReplyValue → ℕ → Option ℕ → ℕ → Bool
is_placed_there e r seat before place = is_placed (three_calls e r) (claim seat before (receipt_of place e r))
