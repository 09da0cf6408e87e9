-- The turns of both sides: what is asked for a letter, and what a letter is answered.
use Rattle.std.specs.Prelude.{◌≡◌, ℕ, Option, Some, None, if◌then◌else◌, ⊤}
use Rattle.pcrf_model.specs.Letters.{AckValue, LetterValue}
use Rattle.pcrf_model.specs.Cursors.{Cursor, CursorsValue, ack_of, ask, is_acknowledgement, letter_of, peer_cursor}
use Rattle.pcrf_model.specs.Replies.{ReplyValue}
use Rattle.pcrf_model.specs.Steps.{SiteEvent, AskOwn, AskWhole}
use Rattle.site_lock.specs.Books.{SeatValue}
use Rattle.site_lock.specs.Calls.{GainsReceipt, TellsPast}

-- ---- who dials

-- what the site is asked: all that it holds, and, once an acknowledgement came, what is for who said the first
abbrev pub asked_event : CursorsValue → Option AckValue → SiteEvent
asked_event c None = AskWhole
asked_event c (Some first) = ask c first.sender

-- the position that operations are asked for from; the whole is asked for from the first on
abbrev pub asked_position : SiteEvent → ℕ
asked_position (AskOwn from) = from
asked_position event = 0

-- how many operations a peer said that it took, by its entry
abbrev pub said_taken : Option Cursor → ℕ
said_taken None = 0
said_taken (Some c) = c.cursor

-- past which length of its log the site is asked; at once at first
abbrev pub asked_past : CursorsValue → Option AckValue → Option ℕ
asked_past c None = None
asked_past c (Some first) = Some (said_taken (peer_cursor c first.sender))

-- where it is asked past a length, the reply tells more
abbrev pub Tells : Option ℕ → ReplyValue → Type 0
Tells None reply = ⊤
Tells (Some past) reply = TellsPast past reply

-- The letter is what the site's reply makes of the question, at the position that it asks from; the seat has one more receipt, of both.
abbrev pub MakesLetter : CursorsValue → ℕ → Option AckValue → SeatValue → LetterValue → SeatValue → Type 0
MakesLetter c edition first s l t =
    (reply : ReplyValue) × GainsReceipt s (asked_event c first) reply t × Tells (asked_past c first) reply
    × (letter_of c edition (asked_position (asked_event c first)) reply ≡ Some l)

-- ---- who listens

-- a letter is answered by what was taken of its sender, an acknowledgement by nothing
abbrev pub answer_to : CursorsValue → LetterValue → Option AckValue
answer_to c l = if is_acknowledgement l.body then None else Some (ack_of c l.site)
