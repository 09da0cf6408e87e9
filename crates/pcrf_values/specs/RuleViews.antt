-- A rule as a plain value, by its parts.
use Rattle.std.specs.Prelude.{ℕ, List, [], ◌∷◌}
use Rattle.pcrf_values.specs.declared.rule.FlowStatus.{FlowStatus}
use Rattle.pcrf_values.specs.declared.rule.RuleQos.{RuleQos}
use Rattle.pcrf_values.specs.Numbers.{flow_status_number, preemption_number}
use Rattle.pcrf_values.specs.RuleValues.{RuleValue}

-- the rule of these parts
abbrev pub rule_value : List ℕ → FlowStatus → List (List ℕ) → RuleQos → ℕ → RuleValue
rule_value name status filters qos precedence = record {
  name = name;
  status = flow_status_number status;
  filters = filters;
  qci = qos.class;
  priority = qos.priority.level;
  capability = preemption_number qos.priority.capability;
  vulnerability = preemption_number qos.priority.vulnerability;
  max_ul = qos.max_uplink;
  max_dl = qos.max_downlink;
  precedence = precedence;
}

-- the numbers behind the filters
abbrev pub numbers_of : RuleValue → List ℕ
numbers_of r = r.qci ∷ r.priority ∷ r.capability ∷ r.vulnerability ∷ r.max_ul ∷ r.max_dl ∷ r.precedence ∷ []
