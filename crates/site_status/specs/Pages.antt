-- What a target asks for.
use Rattle.std.specs.Prelude.{ℕ, ◌≢◌, ◌==◌, List, ◌++◌, length, take, drop, position, unwrap_or, codes}
use Rattle.site_status.specs.declared.pages.Page.{Page}
use Rattle.site_status.specs.declared.pages.Page.TheVariants.{Health, Metrics, Overview, Style, Script, History, Session, Subscriber, Address, Gateway}

-- the path of a target: what stands before the first question mark (RFC 9110, 7.1)
unfoldable pub path_of_target : List ℕ → List ℕ
path_of_target target = take (unwrap_or (position (λ byte. byte == 63) target) (length target)) target

-- what stands from the first question mark on
abbrev pub from_question_mark : List ℕ → List ℕ
from_question_mark target = drop (unwrap_or (position (λ byte. byte == 63) target) (length target)) target

-- the query of a target: what stands behind the first question mark (RFC 9110, 4.1)
abbrev pub query_of_target : List ℕ → List ℕ
query_of_target target = drop 1 (from_question_mark target)

-- the path that asks for a page
abbrev pub path_of_page : Page → List ℕ
path_of_page Health = codes "/healthz"
path_of_page Metrics = codes "/metrics"
path_of_page Overview = codes "/"
path_of_page Style = codes "/style.css"
path_of_page Script = codes "/script.js"
path_of_page History = codes "/history"
path_of_page (Session name) = codes "/sessions/" ++ name.now
path_of_page (Subscriber name) = codes "/subscribers/" ++ name.now
path_of_page (Address name) = codes "/addresses/" ++ name.now
path_of_page (Gateway name) = codes "/gateways/" ++ name.now

-- the path asks for no part of the page for a browser
pub record AsksForNoPart (path : List ℕ) : Type 0 where
  pub overview : path ≢ codes "/"
  pub style : path ≢ codes "/style.css"
  pub script : path ≢ codes "/script.js"
  pub history : path ≢ codes "/history"

-- the path asks for no page with a name
pub record AsksForNoName (path : List ℕ) : Type 0 where
  pub session : (name : List ℕ) → path ≢ codes "/sessions/" ++ name
  pub subscriber : (name : List ℕ) → path ≢ codes "/subscribers/" ++ name
  pub address : (name : List ℕ) → path ≢ codes "/addresses/" ++ name
  pub gateway : (name : List ℕ) → path ≢ codes "/gateways/" ++ name

-- the path asks for no page
abbrev pub AsksForNone : List ℕ → Type 0
AsksForNone path = (page : Page) → path ≢ path_of_page page
