-- Answers of Rx as they are written (TS 29.214).
use Rattle.std.specs.Prelude.{ℕ, List, [], ◌∷◌, ◌++◌, Option}
use Rattle.pcrf_values.specs.Applications.{rx_application}
use Rattle.pcrf_values.specs.declared.refusal.Refusal.{Refusal}
use Rattle.dia_codec.specs.declared.message.Header.{Header}
use Rattle.dia_codec.specs.Fields.{AvpValue, MessageValue}
use Rattle.dia_base.specs.declared.identity.Identity.{Identity}
use Rattle.dia_base.specs.Avps.{session_id, auth_application_id}
use Rattle.dia_base.specs.Answers.{text_avp, number_avp, answer_header, origin_avps, result_avp}

-- AA-Answer (5.6.2): Session-Id, Auth-Application-Id for Rx, Origin-Host, Origin-Realm, the result
unfoldable pub aaa_avps : Identity → List ℕ → Option Refusal → List AvpValue
aaa_avps i session refusal =
    text_avp session_id session ∷ number_avp auth_application_id rx_application ∷ []
    ++ origin_avps i
    ++ result_avp refusal
    ∷ []

abbrev pub aaa : Identity → Header → List ℕ → Option Refusal → MessageValue
aaa i h session refusal = record { header = answer_header h refusal; avps = aaa_avps i session refusal }

-- Session-Termination-Answer (5.6.5): Session-Id, Origin-Host, Origin-Realm, the result
unfoldable pub sta_avps : Identity → List ℕ → Option Refusal → List AvpValue
sta_avps i session refusal = text_avp session_id session ∷ [] ++ origin_avps i ++ result_avp refusal ∷ []

abbrev pub sta : Identity → Header → List ℕ → Option Refusal → MessageValue
sta i h session refusal = record { header = answer_header h refusal; avps = sta_avps i session refusal }
