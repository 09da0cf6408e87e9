-- What is true of every book.
use Rattle.std.specs.Prelude.{◌≡◌, ℕ, ◌≤◌, List, length}
use Rattle.pcrf_model.specs.Holdings.{Holding}
use Rattle.pcrf_model.specs.Operations.{Operation}
use Rattle.site_machine.specs.Sites.{SiteValue}
use Rattle.site_book.specs.Books.{EntryValue, LeadsTo}

-- The history leads from the opening to the site, and the ledger's number is its length, which is within the limit.
pub record IsSound (opening : Holding) (log : List Operation) (site : SiteValue) (history : List EntryValue) (limit total : ℕ) : Type 0 where
  pub replays : LeadsTo (record { holding = opening; log = log }) history site
  pub counted : total ≡ length history
  pub within : length history ≤ limit
