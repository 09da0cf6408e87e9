-- Cursors: what a site took of each maker's operations, and what it knows that its peers took of its own (this project's profile).
use Rattle.std.specs.Prelude.{ℕ, ◌+◌, max, ◌==◌, Bool, true, false, if◌then◌else◌, ◌&&◌, List, replicate, length, nat_lt, nat_le, slice_index_or, slice_set, Option, Some, None}
use Rattle.std.proofs.Common.{option_and_then}
use Rattle.pcrf_values.specs.Limits.{site_limit}
use Rattle.pcrf_model.specs.Letters.{AckValue, LetterBody, Range, Snapshot, Acknowledgement, LetterValue, body_from, is_carried}
use Rattle.pcrf_model.specs.Replies.{ReplyValue}
use Rattle.pcrf_model.specs.Steps.{SiteEvent, AskOwn, AskWhole}

-- an epoch, and how many operations of it were taken
pub record Cursor : Type 0 where
  pub epoch : ℕ
  pub cursor : ℕ

-- The site and its epoch; for each site as a maker how much was taken of it; for each as a peer how much it said it took, if it said so.
pub record CursorsValue : Type 0 where
  pub site : ℕ
  pub epoch : ℕ
  pub makers : List Cursor
  pub peers : List (Option Cursor)

-- before anything was taken
abbrev pub nothing_taken : Cursor
nothing_taken = record { epoch = 0; cursor = 0 }

-- of a site that begins an epoch: nothing was taken, and nothing is known of its peers
abbrev pub start_cursors : ℕ → ℕ → CursorsValue
start_cursors site epoch = record { site = site; epoch = epoch; makers = replicate site_limit nothing_taken; peers = replicate site_limit None }

-- what was taken of that maker
abbrev pub maker_cursor : CursorsValue → ℕ → Cursor
maker_cursor c maker = slice_index_or c.makers maker nothing_taken

-- what that peer said that it took
abbrev pub peer_cursor : CursorsValue → ℕ → Option Cursor
peer_cursor c peer = slice_index_or c.peers peer None

-- ---- making a letter for a peer

-- the whole state where nothing is known to be taken, else the operations past the cursor
abbrev pub question_past : Option Cursor → SiteEvent
question_past None = AskWhole
question_past (Some c) = if c.cursor == 0 then AskWhole else AskOwn c.cursor

-- what the site is asked, to make a letter for the peer
abbrev pub ask : CursorsValue → ℕ → SiteEvent
ask c peer = question_past (peer_cursor c peer)

-- a letter of the site that says this
abbrev pub letter_saying : CursorsValue → ℕ → LetterBody → LetterValue
letter_saying c edition body = record { edition = edition; site = c.site; epoch = c.epoch; body = body }

-- the letter that the site's reply makes, where operations were asked for from that position on, if a letter carries it
abbrev pub letter_of : CursorsValue → ℕ → ℕ → ReplyValue → Option LetterValue
letter_of c edition from reply = option_and_then (λ b. if is_carried b then Some (letter_saying c edition b) else None) (body_from from reply)

-- ---- having taken a letter whole

-- the entry in the letter's epoch: an older epoch's gives way
abbrev pub in_epoch : ℕ → Cursor → Cursor
in_epoch epoch x = if nat_lt x.epoch epoch then record { epoch = epoch; cursor = 0 } else x

-- a snapshot raises the cursor to the length of the log, a range that begins at it or before raises it to its end
abbrev pub raised_cursor : LetterBody → ℕ → ℕ
raised_cursor (Range from os) cursor = if nat_le from cursor then max cursor (from + length os) else cursor
raised_cursor (Snapshot h n) cursor = max cursor n
raised_cursor (Acknowledgement m e n) cursor = cursor

-- a letter of an older epoch changes nothing
abbrev pub maker_after : LetterValue → Cursor → Cursor
maker_after l x =
    if nat_lt l.epoch x.epoch then x
    else (let y : Cursor = in_epoch l.epoch x in record { epoch = y.epoch; cursor = raised_cursor l.body y.cursor })

-- the letter acknowledges, and carries no operation
abbrev pub is_acknowledgement : LetterBody → Bool
is_acknowledgement (Range from os) = false
is_acknowledgement (Snapshot h n) = false
is_acknowledgement (Acknowledgement m e n) = true

-- an acknowledgement is not of its sender's operations, and changes nothing here
abbrev pub cursors_after_letter : CursorsValue → LetterValue → CursorsValue
cursors_after_letter c l = if is_acknowledgement l.body then c else record c { makers = slice_set c.makers l.site (maker_after l (maker_cursor c l.site)) }

-- ---- acknowledgements

-- what the site tells a maker that it took of it
abbrev pub ack_of : CursorsValue → ℕ → AckValue
ack_of c maker = record { sender = c.site; sender_epoch = c.epoch; maker = maker; maker_epoch = (maker_cursor c maker).epoch; cursor = (maker_cursor c maker).cursor }

-- the acknowledgement as a letter
abbrev pub ack_letter : ℕ → AckValue → LetterValue
ack_letter edition a = record { edition = edition; site = a.sender; epoch = a.sender_epoch; body = Acknowledgement a.maker a.maker_epoch a.cursor }

-- the acknowledgement that a letter carries, if it is one
abbrev pub carried_ack : LetterValue → LetterBody → Option AckValue
carried_ack l (Range from os) = None
carried_ack l (Snapshot h n) = None
carried_ack l (Acknowledgement m e n) = Some (record { sender = l.site; sender_epoch = l.epoch; maker = m; maker_epoch = e; cursor = n })

-- a first entry, or one of a greater epoch of the sender, replaces; one of the same epoch raises the cursor; an older one changes nothing
abbrev pub peer_after : AckValue → Option Cursor → Option Cursor
peer_after a None = Some (record { epoch = a.sender_epoch; cursor = a.cursor })
peer_after a (Some x) =
    if nat_lt x.epoch a.sender_epoch then Some (record { epoch = a.sender_epoch; cursor = a.cursor })
    else (if x.epoch == a.sender_epoch then Some (record { epoch = x.epoch; cursor = max x.cursor a.cursor }) else Some x)

-- at a site that isn't its maker in that epoch it changes nothing
abbrev pub cursors_after_ack : CursorsValue → AckValue → CursorsValue
cursors_after_ack c a =
    if a.maker == c.site && a.maker_epoch == c.epoch
    then record c { peers = slice_set c.peers a.sender (peer_after a (peer_cursor c a.sender)) } else c
