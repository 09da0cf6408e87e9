-- What an answer in the standards' form has besides its own AVPs, by the request's frame (RFC 6733, 5.3.2, 6.2 and 8.16; RFC 8506, 3.2).
use Rattle.std.specs.Prelude.{ℕ, Bool, ◌==◌, ◌&&◌, false, nat_le, if◌then◌else◌, List, [], ◌∷◌, ◌++◌, drop, Option, Some, None, unwrap_or}
use Rattle.std.specs.List.{filter}
use Rattle.std.proofs.Common.{option_and_then}
use Rattle.dia_codec.specs.declared.message.AvpKey.{AvpKey}
use Rattle.dia_codec.specs.declared.message.Header.{Header}
use Rattle.dia_codec.specs.Fields.{AvpValue, number_of}
use Rattle.dia_codec.specs.Limits.{header_bytes}
use Rattle.dia_codec.specs.Reading.{avps_of}
use Rattle.dia_codec.specs.Written.{word_bytes}
use Rattle.dia_base.specs.Answers.{number_avp, is_gx_ccr}
use Rattle.dia_base.specs.Avps.{base_key, tgpp_vendor, cc_request_type, cc_request_number}
use Rattle.dia_base.specs.Rows.{has_key, first_at}
use Rattle.dia_base.specs.declared.identity.Identity.{Identity}
use Rattle.dia_base.specs.NeighbourAnswers as base
use Rattle.dia_base.specs.NeighbourAvps.{capabilities_exchange_command}
use Rattle.dia_base.specs.NeighbourOwnRequests.{base_application}
use Rattle.dia_base.specs.Stated.{state_avps_of}
use Rattle.dia_base.specs.declared.standard.answered.Answered.{Answered}
use Rattle.dia_base.specs.declared.standard.answered.Answered.TheVariants.{Capabilities, Unread, Other}

-- the AVPs of a frame, none where they can't be cut
abbrev pub avps_in : List ℕ → List AvpValue
avps_in frame = unwrap_or (avps_of (drop header_bytes frame)) []

-- ---- the way back

-- Proxy-Info (RFC 6733, 6.7.2)
abbrev pub proxy_info : AvpKey
proxy_info = base_key 284

-- each Proxy-Info as it came, in order (6.2)
abbrev pub proxies : List AvpValue → List AvpValue
proxies avps = filter (has_key proxy_info) avps

-- ---- which credit control request is refused

-- the number at a key, where what stands there first has four bytes
abbrev pub readable : AvpKey → List AvpValue → Option ℕ
readable key avps = option_and_then number_of (first_at key avps)

-- CC-Request-Number (RFC 8506, 8.2), 0 where none can be read
abbrev pub request_number : List AvpValue → ℕ
request_number avps = unwrap_or (readable cc_request_number avps) 0

-- INITIAL_REQUEST and UPDATE_REQUEST (8.3)
abbrev pub initial_request : ℕ
initial_request = 1

abbrev pub update_request : ℕ
update_request = 2

-- EVENT_REQUEST, the last type
abbrev pub event_request : ℕ
event_request = 4

-- the first request of a session has the number 0, each later one another (8.2)
abbrev pub type_of_number : ℕ → ℕ
type_of_number number = if number == 0 then initial_request else update_request

-- CC-Request-Type where it is one that there is, else by the number
abbrev pub request_type : Option ℕ → ℕ → ℕ
request_type None number = type_of_number number
request_type (Some given) number = if nat_le initial_request given && nat_le given event_request then given else type_of_number number

-- CC-Request-Type and CC-Request-Number, which each answer has (3.2)
abbrev pub mark_avps : List AvpValue → List AvpValue
mark_avps avps =
    number_avp cc_request_type (request_type (readable cc_request_type avps) (request_number avps))
    ∷ number_avp cc_request_number (request_number avps)
    ∷ []

-- ---- what the PCRF is

-- Supported-Vendor-Id (RFC 6733, 5.3.6)
abbrev pub supported_vendor : AvpValue
supported_vendor = number_avp (base_key 265) tgpp_vendor

-- Firmware-Revision (5.3.4), which stands without M
abbrev pub firmware_revision : AvpValue
firmware_revision = record { code = 267; vendor = None; mandatory = false; protected = false; value = word_bytes 1 }

abbrev pub node_avps : List AvpValue
node_avps = supported_vendor ∷ firmware_revision ∷ []

-- a Capabilities-Exchange-Request (5.3.1)
abbrev pub is_cer : Header → Bool
is_cer h = h.application == base_application && h.command == capabilities_exchange_command

-- the answer to one that could not be read has nothing of what each answer to one has (5.3.2): Host-IP-Address, Vendor-Id, Product-Name
abbrev pub whole_node_avps : Identity → List AvpValue
whole_node_avps i = base.node_avps i ++ base.product ∷ node_avps

-- ---- all of it

-- to a request that could not be read
abbrev pub unread_avps : Identity → Header → List AvpValue → List AvpValue
unread_avps i h avps = if is_gx_ccr h then mark_avps avps else if is_cer h then whole_node_avps i else []

-- by what is answered
abbrev pub kind_avps : Identity → Answered → Header → List AvpValue → List AvpValue
kind_avps i Capabilities h avps = node_avps
kind_avps i Unread h avps = unread_avps i h avps
kind_avps i Other h avps = []

unfoldable pub besides : Identity → Answered → Header → List ℕ → List AvpValue
besides i answered h frame = kind_avps i answered h (avps_in frame) ++ proxies (avps_in frame) ++ state_avps_of i h
