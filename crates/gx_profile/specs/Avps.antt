-- AVPs of Gx by their names (TS 29.212, 5.3 and 5.4).
use Rattle.dia_codec.specs.declared.message.AvpKey.{AvpKey}
use Rattle.dia_base.specs.Avps.{base_key, tgpp_key}

-- ---- of rules and qualities of service (TS 29.212)

-- 5.3.2
abbrev pub charging_rule_install : AvpKey
charging_rule_install = tgpp_key 1001

-- 5.3.3
abbrev pub charging_rule_remove : AvpKey
charging_rule_remove = tgpp_key 1002

-- 5.3.4
abbrev pub charging_rule_definition : AvpKey
charging_rule_definition = tgpp_key 1003

-- 5.3.6
abbrev pub charging_rule_name : AvpKey
charging_rule_name = tgpp_key 1005

-- 5.3.11
abbrev pub precedence : AvpKey
precedence = tgpp_key 1010

-- 5.3.16
abbrev pub qos_information : AvpKey
qos_information = tgpp_key 1016

-- 5.3.17
abbrev pub qos_class_identifier : AvpKey
qos_class_identifier = tgpp_key 1028

-- 5.3.25
abbrev pub guaranteed_bitrate_dl : AvpKey
guaranteed_bitrate_dl = tgpp_key 1025

-- 5.3.26
abbrev pub guaranteed_bitrate_ul : AvpKey
guaranteed_bitrate_ul = tgpp_key 1026

-- 5.3.32
abbrev pub allocation_retention_priority : AvpKey
allocation_retention_priority = tgpp_key 1034

-- 5.3.39
abbrev pub apn_aggregate_max_bitrate_dl : AvpKey
apn_aggregate_max_bitrate_dl = tgpp_key 1040

-- 5.3.40
abbrev pub apn_aggregate_max_bitrate_ul : AvpKey
apn_aggregate_max_bitrate_ul = tgpp_key 1041

-- 5.3.45
abbrev pub priority_level : AvpKey
priority_level = tgpp_key 1046

-- 5.3.46
abbrev pub pre_emption_capability : AvpKey
pre_emption_capability = tgpp_key 1047

-- 5.3.47
abbrev pub pre_emption_vulnerability : AvpKey
pre_emption_vulnerability = tgpp_key 1048

-- 5.3.48
abbrev pub default_eps_bearer_qos : AvpKey
default_eps_bearer_qos = tgpp_key 1049

-- 5.3.53
abbrev pub flow_information : AvpKey
flow_information = tgpp_key 1058

-- 5.3.65
abbrev pub flow_direction : AvpKey
flow_direction = tgpp_key 1080

-- ---- of flows and rates (TS 29.214)

-- 5.3.8
abbrev pub flow_description : AvpKey
flow_description = tgpp_key 507

-- 5.3.11
abbrev pub flow_status : AvpKey
flow_status = tgpp_key 511

-- 5.3.14
abbrev pub max_requested_bandwidth_dl : AvpKey
max_requested_bandwidth_dl = tgpp_key 515

-- 5.3.15
abbrev pub max_requested_bandwidth_ul : AvpKey
max_requested_bandwidth_ul = tgpp_key 516

-- ---- of requests that a server makes (RFC 6733)

-- 8.12
abbrev pub re_auth_request_type : AvpKey
re_auth_request_type = base_key 285
