-- Media components and their flows as they are read (TS 29.214, 5.3.16 and 5.3.18).
use Rattle.std.specs.Prelude.{ℕ, List, [], ◌∷◌, ◌++◌, Some, unwrap_or, map}
use Rattle.pcrf_values.specs.Sets.{if_any}
use Rattle.dia_codec.specs.Fields.{AvpValue}
use Rattle.dia_codec.specs.Reading.{avps_of}
use Rattle.pcrf_model.specs.Requests.{FlowValue, ComponentValue}
use Rattle.dia_base.specs.Rows.{Row, Kind, required, optional, repeated, unsigned32, octet_string, grouped, values_of, number_at}
use Rattle.rx_profile.specs.Avps.{flow_description, flow_number, flow_status, flow_usage, max_requested_bandwidth_dl, max_requested_bandwidth_ul, media_component_number, media_sub_component, media_type}
use Rattle.pcrf_values.specs.Limits.{filters_limit, flows_limit}
use Rattle.rx_profile.specs.Numbers.{status_row, usage_row, rate_rows}

-- ---- flows

-- this project's profile of a flow, in the order in which the rows are judged: Flow-Number and the Flow-Descriptions
abbrev pub flow_head_rows : List Row
flow_head_rows = required flow_number unsigned32 ∷ repeated flow_description (Some filters_limit) octet_string ∷ []

-- and what a flow says besides
abbrev pub flow_rows : List Row
flow_rows = flow_head_rows ++ status_row ∷ usage_row ∷ rate_rows

-- a Media-Sub-Component
abbrev pub flow : Kind
flow = grouped flow_rows

-- the flow of AVPs that aren't refused
abbrev pub flow_in : List AvpValue → FlowValue
flow_in avps = record {
  number = unwrap_or (number_at flow_number avps) 0;
  filters = if_any (values_of flow_description avps);
  usage = number_at flow_usage avps;
  status = number_at flow_status avps;
  rate_up = number_at max_requested_bandwidth_ul avps;
  rate_down = number_at max_requested_bandwidth_dl avps;
}

-- the flow that a group is
abbrev pub flow_of : List ℕ → FlowValue
flow_of value = flow_in (unwrap_or (avps_of value) [])

-- ---- components

-- the flows of a component
abbrev pub flows_row : Row
flows_row = repeated media_sub_component (Some flows_limit) flow

-- what a component says besides its flows
abbrev pub component_head_rows : List Row
component_head_rows =
    required media_component_number unsigned32 ∷ optional media_type unsigned32 ∷ status_row ∷ rate_rows

-- this project's profile of a component, in the order in which the rows are judged
abbrev pub component_rows : List Row
component_rows = component_head_rows ++ flows_row ∷ []

-- a Media-Component-Description
abbrev pub component : Kind
component = grouped component_rows

-- the component of AVPs that aren't refused
abbrev pub component_in : List AvpValue → ComponentValue
component_in avps = record {
  number = unwrap_or (number_at media_component_number avps) 0;
  media = number_at media_type avps;
  status = number_at flow_status avps;
  rate_up = number_at max_requested_bandwidth_ul avps;
  rate_down = number_at max_requested_bandwidth_dl avps;
  flows = map flow_of (values_of media_sub_component avps);
}

-- the component that a group is
abbrev pub component_of : List ℕ → ComponentValue
component_of value = component_in (unwrap_or (avps_of value) [])
