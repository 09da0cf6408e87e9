-- The default quality of service of a session, as it is written (TS 29.212, 5.3.16 and 5.3.48; this project's profile of the M bits).
use Rattle.std.specs.Prelude.{ℕ, Bool, true, false, List, [], ◌∷◌, Option, Some, None}
use Rattle.std.specs.List.{flat_map}
use Rattle.pcrf_values.specs.Numbers.{preemption_number}
use Rattle.pcrf_values.specs.declared.default_quality.DefaultQuality.{DefaultQuality}
use Rattle.pcrf_values.specs.declared.rule.RetentionPriority.{RetentionPriority}
use Rattle.dia_codec.specs.declared.message.AvpKey.{AvpKey}
use Rattle.dia_codec.specs.Fields.{AvpValue}
use Rattle.dia_codec.specs.Written.{word_bytes, written_avp}
use Rattle.dia_base.specs.Answers.{tgpp_avp}
use Rattle.gx_profile.specs.Avps.{qos_information, qos_class_identifier, allocation_retention_priority, apn_aggregate_max_bitrate_dl, apn_aggregate_max_bitrate_ul, priority_level, pre_emption_capability, pre_emption_vulnerability, default_eps_bearer_qos}

-- with M: a gateway has to understand it
abbrev pub needed : Bool
needed = true

-- without M: it may be passed over
abbrev pub optional : Bool
optional = false

-- a number
abbrev pub tgpp_number : AvpKey → Bool → ℕ → AvpValue
tgpp_number key mandatory number = tgpp_avp key mandatory (word_bytes number)

-- a group
abbrev pub tgpp_group : AvpKey → Bool → List AvpValue → AvpValue
tgpp_group key mandatory avps = tgpp_avp key mandatory (flat_map written_avp avps)

-- what an Allocation-Retention-Priority holds: a level, a capability and a vulnerability
abbrev pub retention_avps : ℕ → ℕ → ℕ → List AvpValue
retention_avps level capability vulnerability =
    tgpp_number priority_level optional level
    ∷ tgpp_number pre_emption_capability optional capability
    ∷ tgpp_number pre_emption_vulnerability optional vulnerability
    ∷ []

-- the same of a priority
abbrev pub priority_avps : RetentionPriority → List AvpValue
priority_avps p = retention_avps p.level (preemption_number p.capability) (preemption_number p.vulnerability)

-- what the QoS-Information of an access point holds
abbrev pub rate_avps : DefaultQuality → List AvpValue
rate_avps q =
    tgpp_number apn_aggregate_max_bitrate_ul optional q.aggregate_uplink
    ∷ tgpp_number apn_aggregate_max_bitrate_dl optional q.aggregate_downlink
    ∷ []

-- what a Default-EPS-Bearer-QoS holds
abbrev pub bearer_avps : DefaultQuality → List AvpValue
bearer_avps q =
    tgpp_number qos_class_identifier needed q.class
    ∷ tgpp_group allocation_retention_priority optional (priority_avps q.priority)
    ∷ []

-- QoS-Information and Default-EPS-Bearer-QoS, where there is a default quality of service
abbrev pub quality_avps : Option DefaultQuality → List AvpValue
quality_avps None = []
quality_avps (Some q) =
    tgpp_group qos_information needed (rate_avps q)
    ∷ tgpp_group default_eps_bearer_qos optional (bearer_avps q)
    ∷ []
