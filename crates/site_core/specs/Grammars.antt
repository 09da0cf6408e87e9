-- The grammars of the requests that are served, and of the groups in them (RFC 6733, 3.2 and 4.4), in this project's profile: which AVPs
-- they have, how often, and of which type and range each is.
use Rattle.std.specs.Prelude.{ℕ, zero, suc, ◌==◌, ◌&&◌, ◌||◌, if◌then◌else◌, List, [], ◌∷◌, ◌++◌, map, Option, Some, None}
use Rattle.pcrf_values.specs.Applications.{base_application, gx_application, rx_application}
use Rattle.pcrf_values.specs.Limits.{apn_limit, components_limit, filters_limit, flows_limit, identity_limit, session_id_limit, subscribers_limit, subscription_data_limit}
use Rattle.dia_codec.specs.declared.message.AvpKey.{AvpKey}
use Rattle.dia_codec.specs.declared.message.Header.{Header}
use Rattle.dia_base.specs.Avps.{base_key, tgpp_key, auth_application_id, session_id, origin_host, origin_realm, framed_ip_address, framed_ipv6_prefix, called_station_id, cc_request_number, cc_request_type, subscription_id, subscription_id_data, subscription_id_type}
use Rattle.dia_base.specs.Commands.{aa_command, credit_control_command, session_termination_command}
use Rattle.dia_base.specs.Rows.{Kind, Row}
use Rattle.dia_base.specs.Rows as kinds
use Rattle.site_core.specs.declared.failed_avps.grammar.AvpType.{AvpType}
use Rattle.site_core.specs.declared.failed_avps.grammar.AvpType.TheVariants.{Unsigned32, Enumerated, Text, OctetString, Ipv4Address, Ipv6Prefix, Grouped}
use Rattle.site_core.specs.declared.failed_avps.grammar.Grammar.{Grammar}
use Rattle.site_core.specs.declared.failed_avps.grammar.Grammar.TheVariants.{CapabilitiesExchange, PeerCommand, VendorApplication, CreditControl, Subscription, Authorization, MediaComponent, MediaSubComponent, SessionTermination}
use Rattle.site_core.specs.declared.failed_avps.grammar.GrammarRow.{GrammarRow}

-- ---- rows

-- an AVP that stands once
abbrev pub once : AvpKey → AvpType → GrammarRow
once key kind = record { key = key; least = 1; most = Some 1; kind = kind }

-- one that may stand so many times
abbrev pub up_to : ℕ → AvpKey → AvpType → GrammarRow
up_to most key kind = record { key = key; least = 0; most = Some most; kind = kind }

-- one that may stand any number of times
abbrev pub any_number : AvpKey → AvpType → GrammarRow
any_number key kind = record { key = key; least = 0; most = None; kind = kind }

-- Session-Id, Origin-Host and Origin-Realm (RFC 6733, 8.8, 6.3 and 6.4)
abbrev pub session_row : GrammarRow
session_row = once session_id (Text session_id_limit)

abbrev pub host_row : GrammarRow
host_row = once origin_host (Text identity_limit)

abbrev pub realm_row : GrammarRow
realm_row = once origin_realm (Text identity_limit)

-- Auth-Application-Id (6.8)
abbrev pub application_row : GrammarRow
application_row = any_number auth_application_id Unsigned32

-- Subscription-Id (RFC 8506, 8.46), Framed-IP-Address, Framed-IPv6-Prefix and Called-Station-Id
abbrev pub subscription_row : GrammarRow
subscription_row = up_to subscribers_limit subscription_id (Grouped Subscription)

abbrev pub address_row : GrammarRow
address_row = up_to 1 framed_ip_address Ipv4Address

abbrev pub prefix_row : GrammarRow
prefix_row = up_to 1 framed_ipv6_prefix Ipv6Prefix

abbrev pub apn_row : GrammarRow
apn_row = up_to 1 called_station_id (Text apn_limit)

-- Flow-Status, Max-Requested-Bandwidth-UL and -DL (TS 29.214, 5.3.11, 5.3.15 and 5.3.14)
abbrev pub status_row : GrammarRow
status_row = up_to 1 (tgpp_key 511) (Enumerated 0 4)

abbrev pub rate_rows : List GrammarRow
rate_rows = up_to 1 (tgpp_key 516) Unsigned32 ∷ up_to 1 (tgpp_key 515) Unsigned32 ∷ []

-- The rows of a grammar, in the order in which they are judged: RFC 6733, 5.3.1, 5.4.1 and 5.5.1, and 6.11; TS 29.212, 5.6.2; RFC 8506,
-- 8.46; TS 29.214, 5.6.1, 5.3.16, 5.3.18 and 5.6.4.
abbrev pub rows_of : Grammar → List GrammarRow
rows_of CapabilitiesExchange = host_row ∷ realm_row ∷ application_row ∷ any_number (base_key 260) (Grouped VendorApplication) ∷ []
rows_of PeerCommand = host_row ∷ realm_row ∷ []
rows_of VendorApplication = application_row ∷ []
rows_of CreditControl =
    session_row ∷ host_row ∷ realm_row ∷ once cc_request_type (Enumerated 1 3) ∷ once cc_request_number Unsigned32
    ∷ subscription_row ∷ address_row ∷ prefix_row ∷ apn_row ∷ []
rows_of Subscription =
    once subscription_id_type (Enumerated 0 4) ∷ once subscription_id_data (Text subscription_data_limit) ∷ []
rows_of Authorization =
    session_row ∷ host_row ∷ realm_row ∷ address_row ∷ prefix_row ∷ subscription_row ∷ apn_row
    ∷ up_to components_limit (tgpp_key 517) (Grouped MediaComponent) ∷ []
rows_of MediaComponent =
    once (tgpp_key 518) Unsigned32 ∷ up_to 1 (tgpp_key 520) Unsigned32 ∷ status_row
    ∷ rate_rows ++ up_to flows_limit (tgpp_key 519) (Grouped MediaSubComponent) ∷ []
rows_of MediaSubComponent =
    once (tgpp_key 509) Unsigned32 ∷ up_to filters_limit (tgpp_key 507) OctetString ∷ status_row
    ∷ up_to 1 (tgpp_key 512) (Enumerated 0 2) ∷ rate_rows
rows_of SessionTermination = session_row ∷ host_row ∷ realm_row ∷ []

-- no group stands deeper than in a group of a request
abbrev pub depth : ℕ
depth = 3

-- Capabilities-Exchange, Device-Watchdog and Disconnect-Peer (RFC 6733, 3.1)
abbrev pub base_grammar : ℕ → Option Grammar
base_grammar command =
    if command == 257 then Some CapabilitiesExchange else
    if command == 280 || command == 282 then Some PeerCommand else
    None

-- the grammar of a request, by its application and its command
abbrev pub grammar_of : Header → Option Grammar
grammar_of h =
    if h.application == base_application then base_grammar h.command else
    if h.application == gx_application && h.command == credit_control_command then Some CreditControl else
    if h.application == rx_application && h.command == aa_command then Some Authorization else
    if h.application == rx_application && h.command == session_termination_command then Some SessionTermination else
    None

-- ---- grammars as tables that refuse requests

-- what a value has to be, but for groups
abbrev pub plain_kind : AvpType → Kind
plain_kind Unsigned32 value = kinds.unsigned32 value
plain_kind (Enumerated least most) value = kinds.enumerated least most value
plain_kind (Text most) value = kinds.text_to most value
plain_kind OctetString value = kinds.octet_string value
plain_kind Ipv4Address value = kinds.ipv4_address value
plain_kind Ipv6Prefix value = kinds.ipv6_prefix value
plain_kind (Grouped grammar) value = None

-- by the tables of groups
abbrev pub kind_by : (Grammar → List Row) → AvpType → Kind
kind_by inside (Grouped grammar) = kinds.grouped (inside grammar)
kind_by inside kind = plain_kind kind

abbrev pub row_by : (Grammar → List Row) → GrammarRow → Row
row_by inside row = record { key = row.key; least = row.least; most = row.most; kind = kind_by inside row.kind }

-- the table of a grammar, with groups that stand so deep
abbrev pub table_within : ℕ → Grammar → List Row
table_within zero grammar = []
table_within (suc n) grammar = map (row_by (table_within n)) (rows_of grammar)
