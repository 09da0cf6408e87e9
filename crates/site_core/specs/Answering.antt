-- The bytes of answers (TS 29.212, 5.6.3; TS 29.214, 5.6; RFC 6733, 5.3 to 5.5 and 7.2).
use Rattle.std.specs.Prelude.{ℕ, Bool, true, ◌&&◌, is_some, if◌then◌else◌, List, [], ◌∷◌, ◌++◌, nat_lt, Option, Some, None}
use Rattle.pcrf_values.specs.Results.{base_result}
use Rattle.pcrf_values.specs.declared.refusal.Refusal.{Refusal}
use Rattle.pcrf_model.specs.Replies.{GxReplyValue, Rejected, ReplyValue, OnGx, Done, Refused, OnBase}
use Rattle.pcrf_model.specs.Requests.{RequestValue, Ccr, Aar, Str, Base}
use Rattle.dia_codec.specs.declared.message.Header.{Header}
use Rattle.dia_codec.specs.Fields.{AvpValue, MessageValue}
use Rattle.dia_codec.specs.Limits.{longest_message}
use Rattle.dia_codec.specs.Written.{written_spelling, written_len}
use Rattle.dia_base.specs.declared.identity.Identity.{Identity}
use Rattle.dia_base.specs.Answers.{answer_header, origin_avps, refusal_answer, result_avp}
use Rattle.gx_profile.specs.Answers.{cca}
use Rattle.rx_profile.specs.Answers.{aaa, sta}
use Rattle.dia_base.specs.NeighbourAnswers.{base_answer}
use Rattle.site_core.specs.SessionIds.{is_standard, lacks_session}

-- the bytes of an answer; none where it is longer than any message
abbrev pub answer_bytes : MessageValue → List ℕ
answer_bytes m = if nat_lt longest_message (written_len m) then [] else written_spelling m

-- ---- answers to requests that could not be read, with their Session-Id where one is known

-- a header with E
abbrev pub with_error : Header → Header
with_error h = record {
  flags = record { request = h.flags.request; proxiable = h.flags.proxiable; error = true; retransmitted = h.flags.retransmitted };
  command = h.command;
  application = h.application;
  hop_id = h.hop_id;
  end_id = h.end_id;
}

-- Origin-Host, Origin-Realm and the result
abbrev pub message_avps : Identity → Refusal → List AvpValue
message_avps i refusal = origin_avps i ++ result_avp (Some refusal) ∷ []

-- an answer-message, which may stand for the answer of any command, without a Session-Id (RFC 6733, 7.1.5 and 7.2)
unfoldable pub answer_message : Identity → Header → Refusal → MessageValue
answer_message i h refusal = record { header = with_error (answer_header h (Some refusal)); avps = message_avps i refusal }

-- in the standards' form the answer of a command isn't written where it lacks its Session-Id
abbrev pub is_answer_message : Identity → Header → Option (List ℕ) → Bool
is_answer_message i h session = is_standard i.form && lacks_session h session

abbrev pub refusal_message : Identity → Header → Option (List ℕ) → Refusal → MessageValue
refusal_message i h session refusal =
    if is_answer_message i h session then answer_message i h refusal else refusal_answer i h refusal session

abbrev pub refusal_bytes : Identity → Header → Option (List ℕ) → Refusal → List ℕ
refusal_bytes i h session refusal = answer_bytes (refusal_message i h session refusal)

-- ---- replies by their kind

-- to a gateway
abbrev pub to_gateway : ReplyValue → Option GxReplyValue
to_gateway (OnGx reply) = Some reply
to_gateway reply = None

-- to an application function: the refusal, if it is one
abbrev pub to_function : ReplyValue → Option (Option Refusal)
to_function Done = Some None
to_function (Refused refusal) = Some (Some refusal)
to_function reply = None

-- to a peer: the Result-Code
abbrev pub to_peer : ReplyValue → Option ℕ
to_peer (OnBase code) = Some code
to_peer reply = None

-- the reply is of the request's kind
abbrev pub is_of_kind : RequestValue → ReplyValue → Bool
is_of_kind (Ccr q) reply = is_some (to_gateway reply)
is_of_kind (Aar q) reply = is_some (to_function reply)
is_of_kind (Str q) reply = is_some (to_function reply)
is_of_kind (Base q) reply = is_some (to_peer reply)

-- ---- the answer to a request that was served

-- the bytes of an answer by what a request came to; none where nothing is known of it
abbrev pub bytes_by : {A : Type 0} → (A → MessageValue) → Option A → List ℕ
bytes_by answer None = []
bytes_by answer (Some x) = answer_bytes (answer x)

-- by the reply; none where it is of another kind
abbrev pub answer_to : Identity → Header → RequestValue → ReplyValue → List ℕ
answer_to i h (Ccr q) reply = bytes_by (cca i h q) (to_gateway reply)
answer_to i h (Aar q) reply = bytes_by (aaa i h q.session) (to_function reply)
answer_to i h (Str q) reply = bytes_by (sta i h q.session) (to_function reply)
answer_to i h (Base q) reply = bytes_by (λ (code : ℕ). base_answer i h q) (to_peer reply)

-- ---- the answer to a request for which there is no room

-- DIAMETER_TOO_BUSY (RFC 6733, 7.1.3)
abbrev pub too_busy : Refusal
too_busy = base_result 3004

-- a request of Gx or Rx is refused by an answer of its own
abbrev pub busy_answer : Identity → Header → RequestValue → List ℕ
busy_answer i h (Ccr q) = answer_to i h (Ccr q) (OnGx (Rejected too_busy))
busy_answer i h (Aar q) = answer_to i h (Aar q) (Refused too_busy)
busy_answer i h (Str q) = answer_to i h (Str q) (Refused too_busy)
busy_answer i h (Base q) = refusal_bytes i h None too_busy
