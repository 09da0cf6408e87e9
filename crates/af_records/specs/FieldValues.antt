-- The values of components' and flows' fields, and the numbers of the fields.
use Rattle.std.specs.Prelude.{ℕ, Option, Some, None}
use Rattle.std.proofs.Common.{option_map}
use Rattle.pcrf_values.specs.declared.tag.Tag.{Tag}
use Rattle.pcrf_values.specs.Values.{Value, Number, Text, Entry}
use Rattle.pcrf_values.specs.Values as values
use Rattle.af_records.specs.declared.fact.ComponentValue.{ComponentValue}
use Rattle.af_records.specs.declared.fact.ComponentValue.TheVariants as component
use Rattle.af_records.specs.declared.fact.FlowValue.{FlowValue}
use Rattle.af_records.specs.declared.fact.FlowValue.TheVariants as flow

-- the number
abbrev pub component_value : ComponentValue → ℕ
component_value (component.MediaType x) = x
component_value (component.Status x) = x
component_value (component.RateUp x) = x
component_value (component.RateDown x) = x

-- the number of the field
abbrev pub component_number : ComponentValue → ℕ
component_number (component.MediaType x) = 1
component_number (component.Status x) = 2
component_number (component.RateUp x) = 3
component_number (component.RateDown x) = 4

-- the value
abbrev pub flow_value : FlowValue → Value
flow_value (flow.Descriptions x) = values.Filters x
flow_value (flow.Usage x) = Number x
flow_value (flow.Status x) = Number x
flow_value (flow.RateUp x) = Number x
flow_value (flow.RateDown x) = Number x

-- the number of the field
abbrev pub flow_number : FlowValue → ℕ
flow_number (flow.Descriptions x) = 1
flow_number (flow.Usage x) = 2
flow_number (flow.Status x) = 3
flow_number (flow.RateUp x) = 4
flow_number (flow.RateDown x) = 5

-- ---- with their tags
-- of a component
abbrev pub component_entry : Option (Tag × ComponentValue) → Option Entry
component_entry None = None
component_entry (Some e) = Some (e.0, Number (component_value e.1))

-- of a flow
abbrev pub flow_entry : Option (Tag × FlowValue) → Option Entry
flow_entry None = None
flow_entry (Some e) = Some (e.0, flow_value e.1)

-- the number that shows
abbrev pub held_number : Option (Tag × ℕ) → Option ℕ
held_number x = option_map (λ (e : Tag × ℕ). e.1) x
