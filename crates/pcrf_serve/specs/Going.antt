-- What a gateway is told by an update that its new site serves of its own accord: a re-authorisation request in place of an answer.
use Rattle.std.specs.Prelude.{ℕ, ◌+◌, ◌-◌, if◌then◌else◌, List, length, slice_get, Option, Some, None, option_and_then, option_map}
use Rattle.dia_base.specs.declared.identity.Identity.{Identity}
use Rattle.dia_codec.specs.Written.{written_spelling}
use Rattle.gx_profile.specs.Pushes.{rar}
use Rattle.site_lock.specs.Books.{ReceiptValue}
use Rattle.site_lock.specs.Deeds.{counted_place}
use Rattle.pcrf_model.specs.Replies.{GxReplyValue, Granted, Rejected, PushValue, ReplyValue, OnGx}
use Rattle.pcrf_model.specs.Differences.{is_empty}
use Rattle.pcrf_model.specs.Requests.{CcrValue}
use Rattle.dia_base.specs.Stated.{stated}
use Rattle.pcrf_serve.specs.Requests.{identifier_at}

-- what an answer would remove and install, as a push to the host and the realm of the request; nothing where it would say nothing
abbrev pub push_of_answer : CcrValue → GxReplyValue → Option PushValue
push_of_answer q (Granted delta quality) = if is_empty delta then None else Some (record { session = q.session; host = q.host; realm = q.realm; delta = delta })
push_of_answer q (Rejected refusal) = None

-- likewise of any reply
abbrev pub push_of_reply : CcrValue → ReplyValue → Option PushValue
push_of_reply q (OnGx reply) = push_of_answer q reply
push_of_reply q reply = None

-- The bytes of the re-authorisation request of what was replied to the request at a place of a history (TS 29.212, 5.6.4), with the identifiers
-- that a push there has
abbrev pub request_telling : Identity → ℕ → CcrValue → ℕ → ReplyValue → Option (List ℕ)
request_telling names first q place reply = option_map (λ push. stated names (written_spelling (rar names (identifier_at place) (identifier_at (first + place)) push))) (push_of_reply q reply)

-- those of a receipt
abbrev pub telling_of : Identity → ℕ → CcrValue → ReceiptValue → Option (List ℕ)
telling_of names first q r = request_telling names first q (counted_place r) r.reply

-- those of the last receipt
abbrev pub last_telling : Identity → ℕ → CcrValue → List ReceiptValue → Option (List ℕ)
last_telling names first q receipts = option_and_then (telling_of names first q) (slice_get receipts (length receipts - 1))
