-- Re-authorisation requests as they are written (TS 29.212, 5.6.4).
use Rattle.std.specs.Prelude.{ℕ, List, ◌∷◌, ◌++◌}
use Rattle.pcrf_values.specs.Applications.{gx_application}
use Rattle.pcrf_model.specs.Replies.{PushValue}
use Rattle.dia_codec.specs.Fields.{AvpValue, MessageValue}
use Rattle.dia_base.specs.Answers.{text_avp, number_avp}
use Rattle.dia_base.specs.declared.identity.Identity.{Identity}
use Rattle.dia_base.specs.Avps.{destination_realm, destination_host}
use Rattle.dia_base.specs.Requests.{request_header}
use Rattle.gx_profile.specs.Avps.{re_auth_request_type}
use Rattle.gx_profile.specs.Openings.{opening_avps}
use Rattle.gx_profile.specs.Rules.{delta_avps}

-- the command Re-Auth (RFC 6733, 8.3)
abbrev pub re_auth_command : ℕ
re_auth_command = 258

-- the Re-Auth-Request-Type that asks for an authorisation alone (RFC 6733, 8.12)
abbrev pub authorize_only : ℕ
authorize_only = 0

-- Session-Id, Auth-Application-Id for Gx, Origin-Host, Origin-Realm, Destination-Realm, Destination-Host, Re-Auth-Request-Type, and the rules that
-- are removed and installed
unfoldable pub rar_avps : Identity → PushValue → List AvpValue
rar_avps i p =
    opening_avps p.session i
    ++ text_avp destination_realm p.realm
    ∷ text_avp destination_host p.host
    ∷ number_avp re_auth_request_type authorize_only
    ∷ delta_avps i.form p.delta

-- the request
abbrev pub rar : Identity → ℕ → ℕ → PushValue → MessageValue
rar i hop_id end_id p = record { header = request_header re_auth_command gx_application hop_id end_id; avps = rar_avps i p }
