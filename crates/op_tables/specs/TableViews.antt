-- Tables and classes as plain values, by their parts.
use Rattle.std.specs.Prelude.{ℕ, List, ◌==◌, if◌then◌else◌}
use Rattle.pcrf_values.specs.Numbers.{preemption_number}
use Rattle.pcrf_values.specs.declared.rule.Preemption.{Preemption}
use Rattle.pcrf_values.specs.declared.rule.Preemption.TheVariants.{Enabled, Disabled}
use Rattle.pcrf_values.specs.declared.rule.RetentionPriority.{RetentionPriority}
use Rattle.pcrf_values.specs.declared.rule.RuleQos.{RuleQos}
use Rattle.pcrf_model.specs.Tables.{Class, ApnRow, Tables}

-- the pre-emption that has this number
abbrev pub preemption_of : ℕ → Preemption
preemption_of n = if n == 0 then Enabled else Disabled

abbrev pub priority_of : ℕ → ℕ → ℕ → RetentionPriority
priority_of level capability vulnerability = record {
  level = level;
  capability = preemption_of capability;
  vulnerability = preemption_of vulnerability;
}

abbrev pub class_value : RuleQos → ℕ → Class
class_value qos precedence = record {
  qci = qos.class;
  priority = qos.priority.level;
  capability = preemption_number qos.priority.capability;
  vulnerability = preemption_number qos.priority.vulnerability;
  max_ul = qos.max_uplink;
  max_dl = qos.max_downlink;
  precedence = precedence;
}

-- the quality of service in a class
abbrev pub qos_of : Class → RuleQos
qos_of c = record {
  class = c.qci;
  priority = priority_of c.priority c.capability c.vulnerability;
  max_uplink = c.max_ul;
  max_downlink = c.max_dl;
}

abbrev pub tables_value : ℕ → ℕ → Class → List (ℕ × Class) → List (List ℕ × ApnRow) → Tables
tables_value edition rtcp_bps signalling media apns = record {
  edition = edition;
  rtcp_bps = rtcp_bps;
  signalling = signalling;
  media = media;
  apns = apns;
}
