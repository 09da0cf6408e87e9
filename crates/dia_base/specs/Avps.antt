-- AVPs by their names in the standards.
use Rattle.std.specs.Prelude.{ℕ, None, Some}
use Rattle.dia_codec.specs.declared.message.AvpKey.{AvpKey}

-- 3GPP as a vendor (TS 29.230)
abbrev pub tgpp_vendor : ℕ
tgpp_vendor = 10415

-- an AVP of the IETF, which has no vendor (RFC 6733, 4.1)
abbrev pub base_key : ℕ → AvpKey
base_key code = record { code = code; vendor = None }

-- an AVP of 3GPP (TS 29.230)
abbrev pub tgpp_key : ℕ → AvpKey
tgpp_key code = record { code = code; vendor = Some tgpp_vendor }

-- ---- of the base protocol (RFC 6733, 4.5)

abbrev pub auth_application_id : AvpKey
auth_application_id = base_key 258

abbrev pub session_id : AvpKey
session_id = base_key 263

abbrev pub origin_host : AvpKey
origin_host = base_key 264

abbrev pub vendor_id : AvpKey
vendor_id = base_key 266

abbrev pub result_code : AvpKey
result_code = base_key 268

abbrev pub origin_realm : AvpKey
origin_realm = base_key 296

abbrev pub experimental_result : AvpKey
experimental_result = base_key 297

abbrev pub experimental_result_code : AvpKey
experimental_result_code = base_key 298

-- 6.6 and 6.5, of requests that a server makes
abbrev pub destination_realm : AvpKey
destination_realm = base_key 283

abbrev pub destination_host : AvpKey
destination_host = base_key 293

-- ---- of network access (RFC 2865, 5.8 and 5.30; RFC 7155, 4.4.10.5.1; RFC 3162, 2.3)

abbrev pub framed_ip_address : AvpKey
framed_ip_address = base_key 8

abbrev pub framed_ipv6_prefix : AvpKey
framed_ipv6_prefix = base_key 97

abbrev pub called_station_id : AvpKey
called_station_id = base_key 30

-- ---- of credit control (RFC 8506, 8)

abbrev pub cc_request_number : AvpKey
cc_request_number = base_key 415

abbrev pub cc_request_type : AvpKey
cc_request_type = base_key 416

abbrev pub subscription_id : AvpKey
subscription_id = base_key 443

abbrev pub subscription_id_data : AvpKey
subscription_id_data = base_key 444

abbrev pub subscription_id_type : AvpKey
subscription_id_type = base_key 450
