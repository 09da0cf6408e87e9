-- AVPs of Rx by their names (TS 29.214, 5.3).
use Rattle.dia_codec.specs.declared.message.AvpKey.{AvpKey}
use Rattle.dia_base.specs.Avps.{tgpp_key}

-- 5.3.8
abbrev pub flow_description : AvpKey
flow_description = tgpp_key 507

-- 5.3.9
abbrev pub flow_number : AvpKey
flow_number = tgpp_key 509

-- 5.3.11
abbrev pub flow_status : AvpKey
flow_status = tgpp_key 511

-- 5.3.12
abbrev pub flow_usage : AvpKey
flow_usage = tgpp_key 512

-- 5.3.14
abbrev pub max_requested_bandwidth_dl : AvpKey
max_requested_bandwidth_dl = tgpp_key 515

-- 5.3.15
abbrev pub max_requested_bandwidth_ul : AvpKey
max_requested_bandwidth_ul = tgpp_key 516

-- 5.3.16
abbrev pub media_component_description : AvpKey
media_component_description = tgpp_key 517

-- 5.3.17
abbrev pub media_component_number : AvpKey
media_component_number = tgpp_key 518

-- 5.3.18
abbrev pub media_sub_component : AvpKey
media_sub_component = tgpp_key 519

-- 5.3.19
abbrev pub media_type : AvpKey
media_type = tgpp_key 520
