-- Credit control requests as they are read (TS 29.212, 5.6.2).
use Rattle.std.specs.Prelude.{List, [], ◌∷◌, ◌++◌, Option, unwrap_or, option_map}
use Rattle.std.specs.Net.Addr.{ipv4_octets}
use Rattle.pcrf_values.specs.Limits.{apn_limit}
use Rattle.pcrf_values.specs.Numbers.{request_kind_number, request_kind_of}
use Rattle.pcrf_values.specs.Texts.{small_letters}
use Rattle.pcrf_values.specs.declared.refusal.Refusal.{Refusal}
use Rattle.pcrf_values.specs.declared.numbers.RequestKind.{RequestKind}
use Rattle.pcrf_values.specs.declared.numbers.RequestKind.TheVariants.{Initial, Termination}
use Rattle.dia_codec.specs.Fields.{AvpValue}
use Rattle.pcrf_model.specs.Requests.{CcrValue}
use Rattle.dia_base.specs.Avps.{session_id, origin_host, origin_realm, framed_ip_address, framed_ipv6_prefix, called_station_id, cc_request_number, cc_request_type}
use Rattle.dia_base.specs.Origins.{origin_rows}
use Rattle.dia_base.specs.Rows.{Row, required, optional, unsigned32, enumerated, text_to, ipv4_address, ipv6_prefix, value_of, prefix_at, number_at, text_at, rows_refusal}
use Rattle.dia_base.specs.Sessions.{session_row}
use Rattle.dia_base.specs.Subscriptions.{subscription_row, subscribers_of}
use Rattle.gx_profile.specs.declared.ccr.Ccr.{Ccr}

-- The request without where it lies in memory.
abbrev pub ccr_view : Ccr → CcrValue
ccr_view q = record {
  session = q.session;
  host = q.origin.host;
  realm = q.origin.realm;
  kind = q.kind;
  number = q.number;
  user = record {
    address = option_map ipv4_octets q.address;
    prefix = q.prefix;
    apn = q.apn;
    subscribers = q.subscribers;
  };
}

-- ---- the table

-- CC-Request-Type, from INITIAL_REQUEST to TERMINATION_REQUEST
abbrev pub request_type_row : Row
request_type_row = required cc_request_type (enumerated (request_kind_number Initial) (request_kind_number Termination))

-- CC-Request-Type and CC-Request-Number
abbrev pub request_rows : List Row
request_rows = request_type_row ∷ required cc_request_number unsigned32 ∷ []

-- Subscription-Id, Framed-IP-Address, Framed-IPv6-Prefix and Called-Station-Id
abbrev pub access_rows : List Row
access_rows =
    subscription_row
    ∷ optional framed_ip_address ipv4_address
    ∷ optional framed_ipv6_prefix ipv6_prefix
    ∷ optional called_station_id (text_to apn_limit)
    ∷ []

-- this project's profile of a credit control request, in the order in which the rows are judged
abbrev pub ccr_rows : List Row
ccr_rows = session_row ∷ origin_rows ++ request_rows ++ access_rows

-- the first refusal of a credit control request's AVPs by its table
abbrev pub ccr_table_refusal : List AvpValue → Option Refusal
ccr_table_refusal avps = rows_refusal ccr_rows avps

-- ---- what is read

-- CC-Request-Type
abbrev pub kind_at : List AvpValue → RequestKind
kind_at avps = unwrap_or (request_kind_of (unwrap_or (number_at cc_request_type avps) 0)) Initial

-- what AVPs that aren't refused ask for
abbrev pub ccr_of : List AvpValue → CcrValue
ccr_of avps = record {
  session = text_at session_id avps;
  host = text_at origin_host avps;
  realm = text_at origin_realm avps;
  kind = kind_at avps;
  number = unwrap_or (number_at cc_request_number avps) 0;
  user = record {
    address = value_of framed_ip_address avps;
    prefix = prefix_at framed_ipv6_prefix avps;
    apn = option_map small_letters (value_of called_station_id avps);
    subscribers = subscribers_of avps;
  };
}
