-- Abort session requests as they are written, and abort session answers as they are read (TS 29.214, 5.6.7 and 5.6.8).
use Rattle.std.specs.Prelude.{ℕ, true, List, [], ◌∷◌, ◌++◌}
use Rattle.pcrf_values.specs.Applications.{rx_application}
use Rattle.pcrf_model.specs.Replies.{AbortValue}
use Rattle.dia_codec.specs.Fields.{AvpValue, MessageValue}
use Rattle.dia_codec.specs.Written.{word_bytes}
use Rattle.dia_codec.specs.declared.message.AvpKey.{AvpKey}
use Rattle.dia_base.specs.Answers.{text_avp, number_avp, tgpp_avp, origin_avps}
use Rattle.dia_base.specs.Avps.{tgpp_key, session_id, auth_application_id, destination_realm, destination_host}
use Rattle.dia_base.specs.Commands.{abort_session_command}
use Rattle.dia_base.specs.Requests.{request_header}
use Rattle.dia_base.specs.declared.identity.Identity.{Identity}
use Rattle.dia_base.specs.declared.session_answer.SessionAnswer.{SessionAnswer}
use Rattle.rx_profile.specs.declared.abort.AbortOut.{AbortOut}
use Rattle.rx_profile.specs.declared.asa.Asa.{Asa}

-- the abort without where it lies in memory
abbrev pub abort_view : AbortOut → AbortValue
abort_view a = record { session = a.session; host = a.host; realm = a.realm }

-- Abort-Cause (5.3.1)
abbrev pub abort_cause : AvpKey
abort_cause = tgpp_key 500

-- the Abort-Cause BEARER_RELEASED (5.3.1)
abbrev pub bearer_released : ℕ
bearer_released = 0

-- Session-Id, Auth-Application-Id for Rx, Origin-Host, Origin-Realm, Destination-Realm, Destination-Host, Abort-Cause
unfoldable pub asr_avps : Identity → AbortValue → List AvpValue
asr_avps i a =
    text_avp session_id a.session ∷ number_avp auth_application_id rx_application ∷ []
    ++ origin_avps i
    ++ text_avp destination_realm a.realm
    ∷ text_avp destination_host a.host
    ∷ tgpp_avp abort_cause true (word_bytes bearer_released)
    ∷ []

abbrev pub asr : Identity → ℕ → ℕ → AbortValue → MessageValue
asr i hop_id end_id a = record {
  header = request_header abort_session_command rx_application hop_id end_id;
  avps = asr_avps i a;
}

-- the answer, of whatever session
abbrev pub asa_view : Asa → SessionAnswer
asa_view a = record { session = a.session; result = a.result; experimental = a.experimental }
