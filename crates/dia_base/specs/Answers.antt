-- What answers are made of (RFC 6733).
use Rattle.std.specs.Prelude.{◌≡◌, ℕ, ◌≤◌, length, ◌/◌, Bool, true, false, ◌&&◌, ◌||◌, ◌==◌, if◌then◌else◌, List, [], ◌∷◌, ◌++◌, take, Option, Some, None}
use Rattle.std.specs.List.{flat_map}
use Rattle.std.specs.Option.{option_map_or}
use Rattle.pcrf_values.specs.Applications.{gx_application, rx_application}
use Rattle.pcrf_values.specs.Limits.{session_id_limit}
use Rattle.pcrf_values.specs.Results.{success}
use Rattle.pcrf_values.specs.declared.refusal.Refusal.{Refusal}
use Rattle.dia_codec.specs.declared.message.AvpKey.{AvpKey}
use Rattle.dia_codec.specs.declared.message.Header.{Header}
use Rattle.dia_codec.specs.Drafts.{Adds}
use Rattle.dia_codec.specs.Fields.{AvpValue, MessageValue}
use Rattle.dia_codec.specs.Written.{word_bytes, written_avp}
use Rattle.dia_base.specs.Avps.{tgpp_vendor, auth_application_id, session_id, origin_host, vendor_id, result_code, origin_realm, experimental_result, experimental_result_code}
use Rattle.dia_base.specs.Commands.{aa_command, credit_control_command}
use Rattle.dia_base.specs.declared.identity.Identity.{Identity}

-- ---- AVPs as they are written: those of RFC 6733 without a vendor and with M (4.1)
abbrev pub text_avp : AvpKey → List ℕ → AvpValue
text_avp key bytes = record { code = key.code; vendor = key.vendor; mandatory = true; protected = false; value = bytes }

-- without M: a receiver may pass it over (4.1)
abbrev pub plain_avp : AvpKey → List ℕ → AvpValue
plain_avp key bytes = record { code = key.code; vendor = key.vendor; mandatory = false; protected = false; value = bytes }

-- an Unsigned32 or an Enumerated (4.2, 4.3)
abbrev pub number_avp : AvpKey → ℕ → AvpValue
number_avp key number = text_avp key (word_bytes number)

-- a Grouped (4.4)
abbrev pub group_avp : AvpKey → List AvpValue → AvpValue
group_avp key avps = text_avp key (flat_map written_avp avps)

-- an AVP of 3GPP, with M or without it (TS 29.230)
abbrev pub tgpp_avp : AvpKey → Bool → List ℕ → AvpValue
tgpp_avp key mandatory bytes = record { code = key.code; vendor = key.vendor; mandatory = mandatory; protected = false; value = bytes }

-- the first of these AVPs were added, none or some of them
abbrev pub AddsSome : List AvpValue → List ℕ → List ℕ → Type 0
AddsSome added old new = (count : ℕ) × Adds old new (take count added)

-- ---- answers

-- the class of a result, the thousands of its code (7.1)
abbrev pub class_of : Refusal → ℕ
class_of r = r.code / 1000

-- a protocol error, which sets E (7.1.3)
abbrev pub is_protocol_error : Refusal → Bool
is_protocol_error r = class_of r == 3

-- a permanent failure (7.1.5)
abbrev pub is_permanent_failure : Refusal → Bool
is_permanent_failure r = class_of r == 5

-- an answer repeats the request's command, application, identifiers and P (3, 6.2); R and T are clear
abbrev pub answer_header : Header → Option Refusal → Header
answer_header h refusal = record {
  flags = record {
    request = false;
    proxiable = h.flags.proxiable;
    error = option_map_or is_protocol_error refusal false;
    retransmitted = false;
  };
  command = h.command;
  application = h.application;
  hop_id = h.hop_id;
  end_id = h.end_id;
}

-- what an Experimental-Result of 3GPP holds (7.6)
abbrev pub experimental_avps : ℕ → List AvpValue
experimental_avps code = number_avp vendor_id tgpp_vendor ∷ number_avp experimental_result_code code ∷ []

-- Result-Code (7.1), or Experimental-Result (7.6); no refusal is DIAMETER_SUCCESS
abbrev pub result_avp : Option Refusal → AvpValue
result_avp None = number_avp result_code success
result_avp (Some r) =
    if r.experimental then group_avp experimental_result (experimental_avps r.code) else number_avp result_code r.code

-- Origin-Host and Origin-Realm (6.3, 6.4)
abbrev pub origin_avps : Identity → List AvpValue
origin_avps i = text_avp origin_host i.host ∷ text_avp origin_realm i.realm ∷ []

-- Session-Id (8.8), where there is one
abbrev pub session_avps : Option (List ℕ) → List AvpValue
session_avps None = []
session_avps (Some id) = text_avp session_id id ∷ []

-- a CCR under Gx (TS 29.212, 5.6.2)
abbrev pub is_gx_ccr : Header → Bool
is_gx_ccr h = h.command == credit_control_command && h.application == gx_application

-- an AAR under Rx (TS 29.214, 5.6.1)
abbrev pub is_rx_aar : Header → Bool
is_rx_aar h = h.command == aa_command && h.application == rx_application

-- Auth-Application-Id (6.8) stands in the answer to a CCR under Gx or an AAR under Rx that fails for good
abbrev pub names_application : Header → Refusal → Bool
names_application h r = is_permanent_failure r && (is_gx_ccr h || is_rx_aar h)

abbrev pub application_avps : Header → Refusal → List AvpValue
application_avps h r = if names_application h r then number_avp auth_application_id h.application ∷ [] else []

-- where there is a Session-Id, it isn't longer than this profile's are
abbrev pub IsShortId : Option (List ℕ) → Type 0
IsShortId None = Unit {0}
IsShortId (Some id) = length id ≤ session_id_limit

-- what stands in such an answer behind the Session-Id
abbrev pub refused_avps : Identity → Header → Refusal → List AvpValue
refused_avps i h r = application_avps h r ++ origin_avps i ++ result_avp (Some r) ∷ []

-- the answer to a request that could not be read, or isn't served (7.2)
unfoldable pub refusal_answer : Identity → Header → Refusal → Option (List ℕ) → MessageValue
refusal_answer i h r id = record {
  header = answer_header h (Some r);
  avps = session_avps id ++ application_avps h r ++ origin_avps i ++ result_avp (Some r) ∷ [];
}
