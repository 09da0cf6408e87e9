-- Answers in the form of whoever answers.
use Rattle.std.specs.Prelude.{ℕ, ◌==◌, ◌||◌, if◌then◌else◌, List, [], ◌∷◌, take, Option, Some, None}
use Rattle.pcrf_values.specs.declared.refusal.Refusal.{Refusal}
use Rattle.pcrf_model.specs.Requests.{BaseKind, CapabilitiesExchange, DeviceWatchdog, DisconnectPeer, RequestValue, Aar, Base}
use Rattle.pcrf_values.specs.Results.{missing_avp}
use Rattle.dia_codec.specs.declared.message.Header.{Header}
use Rattle.dia_codec.specs.Fields.{AvpValue, header_of}
use Rattle.dia_codec.specs.Limits.{header_bytes}
use Rattle.dia_base.specs.Answers.{is_protocol_error}
use Rattle.dia_base.specs.Avps.{result_code}
use Rattle.dia_base.specs.declared.form.MessageForm.{MessageForm}
use Rattle.dia_base.specs.declared.form.MessageForm.TheVariants.{Own, Standard}
use Rattle.dia_base.specs.declared.identity.Identity.{Identity}
use Rattle.dia_base.specs.Behind.{behind}
use Rattle.dia_base.specs.Besides.{avps_in, besides, readable}
use Rattle.dia_base.specs.declared.standard.answered.Answered.{Answered}
use Rattle.dia_base.specs.declared.standard.answered.Answered.TheVariants.{Capabilities, Unread, Other}
use Rattle.site_core.specs.Failed.{failed_avp}
use Rattle.site_core.specs.SessionIds.{lacks_session}
use Rattle.site_core.specs.declared.completing.Completion.{Completion}
use Rattle.site_core.specs.declared.completing.RefusedBy.{RefusedBy}
use Rattle.site_core.specs.declared.completing.RefusedBy.TheVariants.{NoCode, Code, AsAnswered}
use Rattle.site_core.specs.Asking.{AskedValue, ToServe, ToRefuse, Nothing}

-- what is answered, by what a peer asks
abbrev pub answered_base : BaseKind → Answered
answered_base (CapabilitiesExchange applications) = Capabilities
answered_base DeviceWatchdog = Other
answered_base DisconnectPeer = Other

-- by what is to be served
abbrev pub answered_request : RequestValue → Answered
answered_request (Base q) = answered_base q.kind
answered_request q = Other

-- by the refusal of what isn't served: a protocol error is told of by an answer of no command (RFC 6733, 7.2), and so is one that lacks its
-- Session-Id
abbrev pub answered_refusal : Header → Option (List ℕ) → Refusal → Answered
answered_refusal h session refusal = if is_protocol_error refusal || lacks_session h session then Other else Unread

-- by what a frame asks for
abbrev pub answered : AskedValue → Answered
answered (ToServe header request) = answered_request request
answered (ToRefuse header session refusal) = answered_refusal header session refusal
answered Nothing = Other

-- ---- what is at fault

-- A request that is refused before it is served has a Result-Code, unless the refusal is one of 3GPP. An AA request that was read may yet
-- lack an AVP, by what the site holds: its answer tells.
abbrev pub refused_request : RequestValue → RefusedBy
refused_request (Aar q) = AsAnswered
refused_request q = NoCode

abbrev pub refused_by : AskedValue → RefusedBy
refused_by (ToServe header request) = refused_request request
refused_by (ToRefuse header session refusal) = if refusal.experimental then NoCode else Code refusal.code
refused_by Nothing = NoCode

-- the Result-Code of an answer
abbrev pub code_answered : List ℕ → Option ℕ
code_answered plain = readable result_code (avps_in plain)

-- DIAMETER_MISSING_AVP, if it is that
abbrev pub if_missing : Option ℕ → Option ℕ
if_missing None = None
if_missing (Some code) = if code == missing_avp.code then Some code else None

abbrev pub code_by : RefusedBy → List ℕ → Option ℕ
code_by NoCode plain = None
code_by (Code code) plain = Some code
code_by AsAnswered plain = if_missing (code_answered plain)

-- the Failed-AVP of an answer to a frame, if it tells of this code
abbrev pub failed_by : Header → List ℕ → Option ℕ → Option AvpValue
failed_by header frame None = None
failed_by header frame (Some code) = failed_avp header code frame

-- an answer with this AVP behind its own, where there is room for it
abbrev pub with_failed : Option AvpValue → List ℕ → List ℕ
with_failed None bytes = bytes
with_failed (Some avp) bytes = behind (avp ∷ []) bytes

-- ---- all of it

-- how the answer to what is asked is completed
abbrev pub completion_of : AskedValue → Completion
completion_of asked = record { answered = answered asked; refused = refused_by asked }

-- in the standards' form an answer has further AVPs, and behind them what is at fault, each where there is room for it
abbrev pub completed_there : Identity → Header → Completion → List ℕ → List ℕ → List ℕ
completed_there i header c frame plain =
    with_failed (failed_by header frame (code_by c.refused plain)) (behind (besides i c.answered header frame) plain)

-- by the form of whoever answers
abbrev pub completed_in : MessageForm → Identity → Completion → List ℕ → List ℕ → List ℕ
completed_in Own i c frame plain = plain
completed_in Standard i c frame plain = completed_there i (header_of (take header_bytes frame)) c frame plain

-- The bytes of an answer to a frame: in this project's own form as they are; in the standards' with what the answer has besides.
unfoldable pub completed : Identity → Completion → List ℕ → List ℕ → List ℕ
completed i c frame plain = completed_in i.form i c frame plain
