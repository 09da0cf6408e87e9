-- What a frame asks for (RFC 6733, 7.1 and 7.2): which answer it gets before a site looks at what it holds.
use Rattle.std.specs.Prelude.{ℕ, ◌<◌, not, Bool, ◌&&◌, ◌||◌, ◌==◌, if◌then◌else◌, List, take, drop, Option, Some, None, Result, Ok, Err, ⊤}
use Rattle.std.proofs.Common.{option_and_then}
use Rattle.pcrf_values.specs.declared.refusal.Refusal.{Refusal}
use Rattle.pcrf_values.specs.Applications.{base_application, gx_application, rx_application}
use Rattle.pcrf_values.specs.Limits.{session_id_limit}
use Rattle.pcrf_values.specs.Results.{application_unsupported, command_unsupported, invalid_avp_length, invalid_hdr_bits, unsupported_version}
use Rattle.pcrf_values.specs.Texts.{one_to}
use Rattle.pcrf_model.specs.Requests.{RequestValue}
use Rattle.pcrf_model.specs.Requests as requests
use Rattle.dia_codec.specs.declared.fault.MsgFault.{MsgFault}
use Rattle.dia_codec.specs.declared.fault.MsgFault.TheVariants.{NotWhole, BadVersion, BadFlags, BadAvpLength, NoMemory}
use Rattle.dia_codec.specs.declared.message.Header.{Header}
use Rattle.dia_codec.specs.Fields.{AvpValue, MessageValue, header_of}
use Rattle.dia_codec.specs.Limits.{command_bound, header_bytes}
use Rattle.dia_codec.specs.Reading.{avps_of, message_of}
use Rattle.dia_base.specs.Avps.{session_id}
use Rattle.dia_base.specs.Commands.{aa_command, credit_control_command, session_termination_command}
use Rattle.dia_base.specs.Rows.{value_of, rows_refusal}
use Rattle.gx_profile.specs.Requests.{ccr_table_refusal, ccr_of}
use Rattle.rx_profile.specs.Requests.{aar_refusal, aar_of}
use Rattle.rx_profile.specs.Terminations.{str_rows, str_of}
use Rattle.dia_base.specs.NeighbourAvps.{is_base_command}
use Rattle.dia_base.specs.NeighbourRequests.{base_rows, base_of}
use Rattle.site_machine.specs.Values.{request_value}
use Rattle.site_core.specs.declared.reading.Command.{Command}
use Rattle.site_core.specs.declared.reading.Command.TheVariants.{CreditControl, Authorization, SessionTermination, Base}
use Rattle.site_core.specs.declared.reading.Asked.{Asked}
use Rattle.site_core.specs.declared.reading.Asked.TheVariants.{Request, Refused, Silent}

-- to serve a request, to be refused with the Session-Id where one is known, or nothing
pub data AskedValue : Type 0 where
  ToServe : Header → RequestValue → AskedValue
  ToRefuse : Header → Option (List ℕ) → Refusal → AskedValue
  Nothing : AskedValue

abbrev pub asked_value : Asked → AskedValue
asked_value (Request header request) = ToServe header (request_value request)
asked_value (Refused header session refusal) = ToRefuse header session refusal
asked_value Silent = Nothing

-- the command of a request's header has three bytes (RFC 6733, 3)
abbrev pub HeaderFits : Asked → Type 0
HeaderFits (Request header request) = header.command < command_bound
HeaderFits (Refused header session refusal) = header.command < command_bound
HeaderFits Silent = ⊤

-- ---- the Session-Id

-- the first Session-Id, unless it is empty or too long
abbrev pub session_among : List AvpValue → Option (List ℕ)
session_among avps = option_and_then (one_to session_id_limit) (value_of session_id avps)

-- that of AVPs that can be cut
abbrev pub session_if_cut : Option (List AvpValue) → Option (List ℕ)
session_if_cut None = None
session_if_cut (Some avps) = session_among avps

-- ---- refusals

-- by the version, the flags or the lengths
abbrev pub fault_refusal : MsgFault → Refusal
fault_refusal BadVersion = unsupported_version
fault_refusal BadFlags = invalid_hdr_bits
fault_refusal BadAvpLength = invalid_avp_length
fault_refusal NotWhole = invalid_avp_length
fault_refusal NoMemory = invalid_avp_length

-- the base protocol, Gx and Rx
abbrev pub is_known_application : ℕ → Bool
is_known_application application = application == base_application || application == gx_application || application == rx_application

-- what a request asks for, by its application and then by its command
abbrev pub command_of : Header → Result Command Refusal
command_of header =
    if not (is_known_application header.application) then Err application_unsupported else
    if header.application == gx_application && header.command == credit_control_command then Ok CreditControl else
    if header.application == rx_application && header.command == aa_command then Ok Authorization else
    if header.application == rx_application && header.command == session_termination_command then Ok SessionTermination else
    if header.application == base_application && is_base_command header.command then Ok Base else
    Err command_unsupported

-- by the command's table, and then by what the components of an AA request have to keep among themselves
abbrev pub table_refusal : Command → MessageValue → Option Refusal
table_refusal CreditControl m = ccr_table_refusal m.avps
table_refusal Authorization m = aar_refusal m.avps
table_refusal SessionTermination m = rows_refusal str_rows m.avps
table_refusal Base m = rows_refusal (base_rows m.header.command) m.avps

-- ---- what is asked

-- what a message of the command asks to serve, unless it is refused
abbrev pub request_of : Command → MessageValue → RequestValue
request_of CreditControl m = requests.Ccr (ccr_of m.avps)
request_of Authorization m = requests.Aar (aar_of m.avps)
request_of SessionTermination m = requests.Str (str_of m.avps)
request_of Base m = requests.Base (base_of m.header.command m.avps)

-- by a message of the command, which this refuses
abbrev pub meaning_of_table : Command → MessageValue → Option Refusal → AskedValue
meaning_of_table command m None = ToServe m.header (request_of command m)
meaning_of_table command m (Some refusal) = ToRefuse m.header (session_among m.avps) refusal

-- by a message, of which this is known
abbrev pub meaning_of_command : MessageValue → Result Command Refusal → AskedValue
meaning_of_command m (Ok command) = meaning_of_table command m (table_refusal command m)
meaning_of_command m (Err refusal) = ToRefuse m.header (session_among m.avps) refusal

-- by a request's frame, of which this is read
abbrev pub meaning_of_request : List ℕ → Result MessageValue MsgFault → AskedValue
meaning_of_request frame (Ok m) = meaning_of_command m (command_of m.header)
meaning_of_request frame (Err fault) =
    ToRefuse (header_of (take header_bytes frame)) (session_if_cut (avps_of (drop header_bytes frame))) (fault_refusal fault)

-- An answer is passed over, whatever else is wrong with it. A request is refused by the first fault of its version, its flags and the lengths of its
-- AVPs, by its application, by its command, or by its command's table; else it asks to be served.
unfoldable pub meaning_of_frame : List ℕ → AskedValue
meaning_of_frame frame =
    if (header_of (take header_bytes frame)).flags.request then meaning_of_request frame (message_of frame) else Nothing
