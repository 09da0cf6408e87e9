-- What each message about a gateway's session begins with (TS 29.212, 5.6.3 and 5.6.4).
use Rattle.std.specs.Prelude.{ℕ, List, ◌∷◌}
use Rattle.pcrf_values.specs.Applications.{gx_application}
use Rattle.dia_codec.specs.Fields.{AvpValue}
use Rattle.dia_base.specs.Answers.{text_avp, number_avp, origin_avps}
use Rattle.dia_base.specs.Avps.{session_id, auth_application_id}
use Rattle.dia_base.specs.declared.identity.Identity.{Identity}

-- Session-Id, Auth-Application-Id for Gx, Origin-Host and Origin-Realm
abbrev pub opening_avps : List ℕ → Identity → List AvpValue
opening_avps session i = text_avp session_id session ∷ number_avp auth_application_id gx_application ∷ origin_avps i
