-- What a site writes to a peer by its cursors.
use Rattle.std.specs.Prelude.{ℕ, Option, Some, None, if◌then◌else◌}
use Rattle.pcrf_model.specs.Letters.{LetterValue}
use Rattle.pcrf_model.specs.Steps.{SiteEvent, AskOwn, AskWhole}
use Rattle.pcrf_model.specs.Cursors.{CursorsValue, ask, letter_saying}
use Rattle.pcrf_model.specs.Worlds.{SiteView, asked_body}
use Rattle.site_machine.specs.Sites.{SiteValue}
use Rattle.peer_exchange.specs.Form.{is_placed}

-- the operations from a position on, or all that the site holds where there is none
abbrev pub asked_from : Option ℕ → SiteEvent
asked_from None = AskWhole
asked_from (Some from) = AskOwn from

-- what is seen of a site with its cursors
abbrev pub seen_by : CursorsValue → SiteValue → SiteView
seen_by c s = record { number = s.number; epoch = c.epoch; state = s.state; cursors = c }

-- the letter of the site with these cursors for a peer, under the edition of its operator tables
abbrev pub letter_made : CursorsValue → SiteValue → ℕ → LetterValue
letter_made c s peer = letter_saying c s.tables.edition (asked_body (seen_by c s) (ask c peer))

-- the letter, where its positions and cursors are those that a log may have
abbrev pub if_placed : LetterValue → Option LetterValue
if_placed l = if is_placed l.body then Some l else None
