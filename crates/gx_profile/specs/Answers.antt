-- Answers to credit control requests as they are written (TS 29.212, 5.6.3).
use Rattle.std.specs.Prelude.{List, ◌∷◌, ◌++◌}
use Rattle.pcrf_values.specs.Numbers.{request_kind_number}
use Rattle.pcrf_model.specs.Replies.{GxReplyValue}
use Rattle.pcrf_model.specs.Requests.{CcrValue}
use Rattle.dia_codec.specs.declared.message.Header.{Header}
use Rattle.dia_codec.specs.Fields.{AvpValue, MessageValue}
use Rattle.dia_base.specs.declared.identity.Identity.{Identity}
use Rattle.dia_base.specs.Avps.{cc_request_type, cc_request_number}
use Rattle.dia_base.specs.Answers.{number_avp, answer_header, result_avp}
use Rattle.gx_profile.specs.Openings.{opening_avps}
use Rattle.gx_profile.specs.Qualities.{quality_avps}
use Rattle.gx_profile.specs.Rules.{delta_avps}
use Rattle.pcrf_model.specs.ReplyViews.{reply_refusal, reply_delta, reply_quality}

-- Session-Id, Auth-Application-Id for Gx, Origin-Host, Origin-Realm, the result, CC-Request-Type, CC-Request-Number, the rules that are removed
-- and installed, and the default quality of service
unfoldable pub cca_avps : Identity → CcrValue → GxReplyValue → List AvpValue
cca_avps i q reply =
    opening_avps q.session i
    ++ result_avp (reply_refusal reply)
    ∷ number_avp cc_request_type (request_kind_number q.kind)
    ∷ number_avp cc_request_number q.number
    ∷ delta_avps i.form (reply_delta reply)
    ++ quality_avps (reply_quality reply)

-- the answer
abbrev pub cca : Identity → Header → CcrValue → GxReplyValue → MessageValue
cca i h q reply = record { header = answer_header h (reply_refusal reply); avps = cca_avps i q reply }
