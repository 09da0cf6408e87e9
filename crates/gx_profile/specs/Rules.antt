-- Rules and differences as they are written (TS 29.212, 5.3.2 to 5.3.4; this project's profile of the M bits).
use Rattle.std.specs.Prelude.{ℕ, Bool, nat_le, if◌then◌else◌, List, [], ◌∷◌, ◌++◌, map}
use Rattle.pcrf_values.specs.RuleValues.{RuleValue, DeltaValue}
use Rattle.dia_codec.specs.Fields.{AvpValue}
use Rattle.dia_base.specs.Answers.{tgpp_avp}
use Rattle.dia_base.specs.declared.form.MessageForm.{MessageForm}
use Rattle.dia_base.specs.declared.form.MessageForm.TheVariants.{Own, Standard}
use Rattle.gx_profile.specs.Downlinks.{as_downlink, direction_number, direction_of}
use Rattle.gx_profile.specs.Avps.{charging_rule_install, charging_rule_remove, charging_rule_definition, charging_rule_name, precedence, qos_information, guaranteed_bitrate_dl, guaranteed_bitrate_ul, qos_class_identifier, allocation_retention_priority, flow_information, flow_description, flow_direction, flow_status, max_requested_bandwidth_dl, max_requested_bandwidth_ul}
use Rattle.gx_profile.specs.Qualities.{needed, optional, tgpp_number, tgpp_group, retention_avps}

-- ---- quality of service

-- the last of the classes with a guaranteed bit rate, which are 1 to 4 (TS 23.203, table 6.1.7)
abbrev pub last_guaranteed_class : ℕ
last_guaranteed_class = 4

-- a class has a guaranteed bit rate
abbrev pub has_guaranteed_rate : ℕ → Bool
has_guaranteed_rate class = nat_le class last_guaranteed_class

-- Guaranteed-Bitrate-UL and -DL, where the class has them: the greatest bit rates
abbrev pub guaranteed_avps : RuleValue → List AvpValue
guaranteed_avps r =
    if has_guaranteed_rate r.qci
    then tgpp_number guaranteed_bitrate_ul needed r.max_ul ∷ tgpp_number guaranteed_bitrate_dl needed r.max_dl ∷ []
    else []

-- what the QoS-Information of a rule holds (5.3.16)
unfoldable pub rule_quality_avps : RuleValue → List AvpValue
rule_quality_avps r =
    tgpp_number qos_class_identifier needed r.qci
    ∷ tgpp_number max_requested_bandwidth_ul needed r.max_ul
    ∷ tgpp_number max_requested_bandwidth_dl needed r.max_dl
    ∷ guaranteed_avps r
    ++ tgpp_group allocation_retention_priority optional (retention_avps r.priority r.capability r.vulnerability)
    ∷ []

-- ---- a rule

-- the name of a rule
abbrev pub name_avp : List ℕ → AvpValue
name_avp name = tgpp_avp charging_rule_name needed name

-- what the Flow-Information of a filter holds: a Flow-Description with the filter as it was given, or with one of the downlink and a Flow-Direction
-- beside it (5.3.53)
abbrev pub description_avps : MessageForm → List ℕ → List AvpValue
description_avps Own filter = tgpp_avp flow_description needed filter ∷ []
description_avps Standard filter =
    tgpp_avp flow_description needed (as_downlink filter)
    ∷ tgpp_number flow_direction optional (direction_number (direction_of filter))
    ∷ []

-- a filter
abbrev pub filter_avp : MessageForm → List ℕ → AvpValue
filter_avp form filter = tgpp_group flow_information optional (description_avps form filter)

-- what a Charging-Rule-Definition holds
unfoldable pub rule_avps : MessageForm → RuleValue → List AvpValue
rule_avps form r =
    name_avp r.name
    ∷ map (filter_avp form) r.filters
    ++ tgpp_number flow_status needed r.status
    ∷ tgpp_group qos_information needed (rule_quality_avps r)
    ∷ tgpp_number precedence needed r.precedence
    ∷ []

-- a rule
abbrev pub rule_avp : MessageForm → RuleValue → AvpValue
rule_avp form r = tgpp_group charging_rule_definition needed (rule_avps form r)

-- ---- a difference

-- one Charging-Rule-Remove with all names, where there is one
abbrev pub remove_avps : List (List ℕ) → List AvpValue
remove_avps [] = []
remove_avps (name ∷ names) = tgpp_group charging_rule_remove needed (map name_avp (name ∷ names)) ∷ []

-- one Charging-Rule-Install with all rules, where there is one
abbrev pub install_avps : MessageForm → List RuleValue → List AvpValue
install_avps form [] = []
install_avps form (rule ∷ rules) = tgpp_group charging_rule_install needed (map (rule_avp form) (rule ∷ rules)) ∷ []

-- what is removed, and then what is installed
unfoldable pub delta_avps : MessageForm → DeltaValue → List AvpValue
delta_avps form d = remove_avps d.removed ++ install_avps form d.installed
