-- Classes lose nothing when they are seen as plain numbers.
use Rattle.std.specs.Prelude.{◌≡◌, ℕ, refl}
use Rattle.pcrf_values.specs.Numbers.{preemption_number}
use Rattle.pcrf_values.specs.declared.rule.Preemption.{Preemption}
use Rattle.pcrf_values.specs.declared.rule.Preemption.TheVariants.{Enabled, Disabled}
use Rattle.pcrf_values.specs.declared.rule.RetentionPriority.{RetentionPriority}
use Rattle.pcrf_values.specs.declared.rule.RuleQos.{RuleQos}
use Rattle.op_tables.specs.TableViews.{preemption_of, priority_of, class_value, qos_of}

-- a pre-emption is that of its number
pub preemption_of-number : (p : Preemption) → preemption_of (preemption_number p) ≡ p
preemption_of-number Enabled = refl
preemption_of-number Disabled = refl

pub priority_of-numbers : (p : RetentionPriority) → priority_of p.level (preemption_number p.capability) (preemption_number p.vulnerability) ≡ p
priority_of-numbers p =
    let capability = preemption_of-number p.capability in
    let vulnerability = preemption_of-number p.vulnerability in
    λ i. record { level = p.level; capability = capability i; vulnerability = vulnerability i }

pub qos_of-class_value : (q : RuleQos) (precedence : ℕ) → qos_of (class_value q precedence) ≡ q
qos_of-class_value q precedence =
    let priority = priority_of-numbers q.priority in
    λ i. record { class = q.class; priority = priority i; max_uplink = q.max_uplink; max_downlink = q.max_downlink }
