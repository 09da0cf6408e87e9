-- Flows and components as plain values, by their parts.
use Rattle.std.specs.Prelude.{ℕ, List, Option, option_map}
use Rattle.pcrf_values.specs.Numbers.{flow_usage_number}
use Rattle.pcrf_model.specs.Requests.{FlowValue, ComponentValue}
use Rattle.rx_profile.specs.Numbers.{media_status_number}
use Rattle.rx_profile.specs.declared.media.FlowParts.{FlowParts}
use Rattle.rx_profile.specs.declared.media.ComponentParts.{ComponentParts}

-- the flow of these parts and filters
abbrev pub flow_value : FlowParts → Option (List (List ℕ)) → FlowValue
flow_value p filters = record {
  number = p.number;
  filters = filters;
  usage = option_map flow_usage_number p.usage;
  status = option_map media_status_number p.status;
  rate_up = p.rates.up;
  rate_down = p.rates.down;
}

-- the component of these parts and flows
abbrev pub component_value : ComponentParts → List FlowValue → ComponentValue
component_value p flows = record {
  number = p.number;
  media = p.media_type;
  status = option_map media_status_number p.status;
  rate_up = p.rates.up;
  rate_down = p.rates.down;
  flows = flows;
}
