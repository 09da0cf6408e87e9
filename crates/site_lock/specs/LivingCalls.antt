-- What a call through the lock gives.
use Rattle.std.specs.Prelude.{◌≡◌, ℕ, List, length}
use Rattle.pcrf_values.specs.Sets.{In}
use Rattle.pcrf_model.specs.Sessions.{Session}
use Rattle.pcrf_model.specs.Steps.{SiteState}
use Rattle.site_machine.specs.Sites.{SiteValue}
use Rattle.site_book.specs.Books.{SeatValue}
use Rattle.site_lock.specs.Deeds.{Deed, KeeperValue, LeadsTo, IsAccountOf, begun_at, forgot_more}

-- one new beginning more, with so many calls before it
abbrev pub GainsBeginning : KeeperValue → KeeperValue → Type 0
GainsBeginning before after = (place : ℕ) × (after ≡ begun_at before place)

-- so many of these sessions, and no others, were forgotten
abbrev pub GainsForgotten : KeeperValue → List Session → ℕ → KeeperValue → Type 0
GainsForgotten before sessions count after =
    (gone : List Session) × (after ≡ forgot_more before gone) × (length gone ≡ count) × ((r : Session) → In r gone → In r sessions)

-- the history leads a site from its opening to something, and the seat has just a receipt for each of its entries in it
abbrev pub IsAccount : ℕ → SiteState → List Deed → SeatValue → Type 0
IsAccount seats opening history seat = ((site : SiteValue) × LeadsTo opening history site) × IsAccountOf seats history seat

-- a history leads from the opening to the site, and the seat has just a receipt for each of its entries in it: the seat may find the site so
abbrev pub IsFound : ℕ → SiteState → SeatValue → SiteValue → Type 0
IsFound seats opening seat site = (history : List Deed) × LeadsTo opening history site × IsAccountOf seats history seat

-- a history leads from the opening to a site of which this holds
abbrev pub HoldsWhereLed : SiteState → (SiteValue → Type 0) → Type 0
HoldsWhereLed opening P = (site : SiteValue) × ((history : List Deed) × LeadsTo opening history site) × P site
