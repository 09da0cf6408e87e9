-- The requests by which gateways are told of pushes, and application functions of aborts.
use Rattle.std.specs.Prelude.{◌≡◌, ℕ, ◌+◌, ◌-◌, ◌*◌, ◌%◌, ◌^◌, Bool, true, false, List, length, slice_get, Option, Some, None, option_and_then, option_map}
use Rattle.dia_base.specs.declared.identity.Identity.{Identity}
use Rattle.dia_codec.specs.Written.{written_spelling}
use Rattle.gx_profile.specs.Pushes.{rar}
use Rattle.site_lock.specs.Books.{ReceiptValue}
use Rattle.site_lock.specs.Deeds.{counted_place}
use Rattle.pcrf_model.specs.Replies.{ReplyValue, Pushed, Aborted}
use Rattle.rx_profile.specs.Aborts.{asr}
use Rattle.dia_base.specs.Stated.{stated}

-- a number as identifiers have it, which have 32 bits (RFC 6733, 3)
abbrev pub identifier_at : ℕ → ℕ
identifier_at number = number % 2 ^ 32

-- The End-to-End Identifier from which those of a site count that started so many seconds after 1970: the low 12 bits of the seconds above
-- 20 bits of a random number (RFC 6733, 3)
abbrev pub first_end_id : ℕ → ℕ → ℕ
first_end_id seconds random = seconds % 2 ^ 12 * 2 ^ 20 + random % 2 ^ 20

-- The bytes of the request of what was replied at a place of a history: a re-authorisation request if something was pushed, an abort session
-- request if something was aborted, in the form in which the site writes. The Hop-by-Hop Identifier is the place, and the End-to-End
-- Identifier as much behind the first one.
abbrev pub request_saying : Identity → ℕ → ℕ → ReplyValue → Option (List ℕ)
request_saying names first place (Pushed (Some push)) = Some (stated names (written_spelling (rar names (identifier_at place) (identifier_at (first + place)) push)))
request_saying names first place (Aborted (Some abort)) = Some (stated names (written_spelling (asr names (identifier_at place) (identifier_at (first + place)) abort)))
request_saying names first place reply = None

-- those of a receipt: its place is as a count of 64 bits has it
abbrev pub request_of : Identity → ℕ → ReceiptValue → Option (List ℕ)
request_of names first r = request_saying names first (counted_place r) r.reply

-- those of the last receipt
abbrev pub last_request : Identity → ℕ → List ReceiptValue → Option (List ℕ)
last_request names first receipts = option_and_then (request_of names first) (slice_get receipts (length receipts - 1))

-- the last receipt has this reply
abbrev pub WasReplied : List ReceiptValue → ReplyValue → Type 0
WasReplied receipts reply = option_map (λ r. r.reply) (slice_get receipts (length receipts - 1)) ≡ Some reply

-- something is asked, by what was replied
abbrev pub asks : ReplyValue → Bool
asks (Pushed (Some push)) = true
asks (Aborted (Some abort)) = true
asks reply = false
