-- AA requests as they are read (TS 29.214, 5.6.1).
use Rattle.std.specs.Prelude.{List, [], ◌∷◌, ◌++◌, Option, Some, option_map, map}
use Rattle.std.specs.Net.Addr.{ipv4_octets}
use Rattle.pcrf_values.specs.Limits.{apn_limit}
use Rattle.pcrf_values.specs.Texts.{small_letters}
use Rattle.pcrf_values.specs.declared.refusal.Refusal.{Refusal}
use Rattle.dia_codec.specs.Fields.{AvpValue}
use Rattle.pcrf_model.specs.Requests.{ComponentValue, AarValue}
use Rattle.dia_base.specs.Avps.{session_id, origin_host, origin_realm, framed_ip_address, framed_ipv6_prefix, called_station_id}
use Rattle.dia_base.specs.Origins.{origin_rows}
use Rattle.dia_base.specs.Rows.{Row, optional, repeated, text_to, ipv4_address, ipv6_prefix, values_of, value_of, prefix_at, text_at, or_else, rows_refusal}
use Rattle.dia_base.specs.Sessions.{session_row}
use Rattle.dia_base.specs.Subscriptions.{subscription_row, subscribers_of}
use Rattle.rx_profile.specs.Avps.{media_component_description}
use Rattle.pcrf_values.specs.Limits.{components_limit}
use Rattle.rx_profile.specs.Media.{component, component_of}
use Rattle.rx_profile.specs.Services.{services_refusal}
use Rattle.rx_profile.specs.declared.request.Aar.{Aar}
use Rattle.rx_profile.specs.declared.request.RawAar.{RawAar}

-- The request without where it lies in memory.
abbrev pub aar_view : Aar → AarValue
aar_view q = record {
  session = q.session;
  host = q.origin.host;
  realm = q.origin.realm;
  user = record {
    address = option_map ipv4_octets q.address;
    prefix = q.prefix;
    apn = q.apn;
    subscribers = q.subscribers;
  };
  components = q.components;
}

-- and before its components were judged among themselves
abbrev pub raw_view : RawAar → AarValue
raw_view q = record {
  session = q.session;
  host = q.origin.host;
  realm = q.origin.realm;
  user = record {
    address = option_map ipv4_octets q.access.address;
    prefix = q.access.prefix;
    apn = q.access.apn;
    subscribers = q.access.subscribers;
  };
  components = q.components.items;
}

-- ---- the table

-- Framed-IP-Address, Framed-IPv6-Prefix, Subscription-Id and Called-Station-Id
abbrev pub access_rows : List Row
access_rows =
    optional framed_ip_address ipv4_address
    ∷ optional framed_ipv6_prefix ipv6_prefix
    ∷ subscription_row
    ∷ optional called_station_id (text_to apn_limit)
    ∷ []

-- the components of a request
abbrev pub components_row : Row
components_row = repeated media_component_description (Some components_limit) component

-- this project's profile of an AA request, in the order in which the rows are judged
abbrev pub aar_rows : List Row
aar_rows = session_row ∷ origin_rows ++ access_rows ++ components_row ∷ []

-- ---- what is read

-- the components that AVPs describe
abbrev pub components_of : List AvpValue → List ComponentValue
components_of avps = map component_of (values_of media_component_description avps)

-- what AVPs that aren't refused ask for
abbrev pub aar_of : List AvpValue → AarValue
aar_of avps = record {
  session = text_at session_id avps;
  host = text_at origin_host avps;
  realm = text_at origin_realm avps;
  user = record {
    address = value_of framed_ip_address avps;
    prefix = prefix_at framed_ipv6_prefix avps;
    apn = option_map small_letters (value_of called_station_id avps);
    subscribers = subscribers_of avps;
  };
  components = components_of avps;
}

-- The first refusal of an AA request's AVPs: by its table, row by row, and then by what its components have to keep
-- among themselves.
abbrev pub aar_refusal : List AvpValue → Option Refusal
aar_refusal avps = or_else (rows_refusal aar_rows avps) (services_refusal (components_of avps))
