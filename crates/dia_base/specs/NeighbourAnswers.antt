-- Answers of the base protocol as they are written: Capabilities-Exchange-Answer, Device-Watchdog-Answer and Disconnect-Peer-Answer
-- (RFC 6733, 5.3.2, 5.5.2 and 5.4.2).
use Rattle.std.specs.Prelude.{ℕ, false, List, [], ◌∷◌, ◌++◌, codes}
use Rattle.std.specs.Net.Addr.{ipv4_octets}
use Rattle.pcrf_values.specs.Applications.{gx_application, rx_application}
use Rattle.dia_codec.specs.declared.message.Header.{Header}
use Rattle.dia_codec.specs.Fields.{AvpValue, MessageValue}
use Rattle.pcrf_model.specs.Requests.{BaseKind, CapabilitiesExchange, DeviceWatchdog, DisconnectPeer, BaseValue}
use Rattle.pcrf_model.specs.Refusals.{base_refusal}
use Rattle.dia_base.specs.Avps.{tgpp_vendor, auth_application_id, vendor_id}
use Rattle.dia_base.specs.Answers.{text_avp, number_avp, group_avp, answer_header, result_avp, origin_avps}
use Rattle.dia_base.specs.declared.identity.Identity.{Identity}
use Rattle.dia_base.specs.NeighbourAvps.{host_ip_address, product_name, vendor_specific_application_id}

-- an IPv4 address behind its family (Address, 4.3.1)
abbrev pub address_value : Identity → List ℕ
address_value i = 0 ∷ 1 ∷ ipv4_octets i.address

-- Host-IP-Address (5.3.5), and a Vendor-Id (5.3.3) that is no vendor's
abbrev pub node_avps : Identity → List AvpValue
node_avps i = text_avp host_ip_address (address_value i) ∷ number_avp vendor_id 0 ∷ []

-- Product-Name (5.3.7), which stands without M
abbrev pub product : AvpValue
product = record { code = product_name.code; vendor = product_name.vendor; mandatory = false; protected = false; value = codes "pcrf" }

-- an application of 3GPP (6.11)
abbrev pub supported_avps : ℕ → List AvpValue
supported_avps a = number_avp vendor_id tgpp_vendor ∷ number_avp auth_application_id a ∷ []

abbrev pub supported_application : ℕ → AvpValue
supported_application a = group_avp vendor_specific_application_id (supported_avps a)

-- what the PCRF is and can: it speaks Gx and Rx
abbrev pub capabilities_avps : Identity → List AvpValue
capabilities_avps i = node_avps i ++ product ∷ supported_application gx_application ∷ supported_application rx_application ∷ []

-- what an answer has besides the result and the origin
abbrev pub kind_avps : Identity → BaseKind → List AvpValue
kind_avps i (CapabilitiesExchange applications) = capabilities_avps i
kind_avps i DeviceWatchdog = []
kind_avps i DisconnectPeer = []

-- the answer to a request that was read
unfoldable pub base_avps : Identity → BaseValue → List AvpValue
base_avps i q = result_avp (base_refusal q.kind) ∷ origin_avps i ++ kind_avps i q.kind

abbrev pub base_answer : Identity → Header → BaseValue → MessageValue
base_answer i h q = record { header = answer_header h (base_refusal q.kind); avps = base_avps i q }
