-- What a flow of an AF session shows: its status, its class and its rates (TS 29.214, 4.4.1, 5.3.11 and 5.3.12; TS 29.213, 6.3), and the rule made of them.
use Rattle.std.specs.Prelude.{ℕ, Bool, if◌then◌else◌, List, ◌++◌, min, Option, Some, codes, decimal}
use Rattle.std.proofs.Common.{option_and_then, unwrap_or}
use Rattle.pcrf_values.specs.RuleValues.{RuleValue}
use Rattle.pcrf_values.specs.Places.{ComponentField, MediaType, ComponentRateUp, ComponentRateDown, FlowField, FlowDescriptions, FlowRateUp, FlowRateDown, OfComponent, OfFlow}
use Rattle.pcrf_values.specs.FlowWords as words
use Rattle.pcrf_model.specs.Sessions.{Session}
use Rattle.pcrf_model.specs.Views.{View, value, number, as_filters}
use Rattle.pcrf_model.specs.Tables.{Class, Tables, media_class}

-- an AF session, a Media-Component-Number and a Flow-Number
pub record FlowId : Type 0 where
  pub session : Session
  pub component : ℕ
  pub flow : ℕ

-- what its component's field shows, as a number
abbrev pub of_component : View → FlowId → ComponentField → Option ℕ
of_component v i f = number v i.session (OfComponent i.component f)

-- the filters that the flow shows
abbrev pub filters : View → FlowId → Option (List (List ℕ))
filters v i = option_and_then as_filters (value v i.session (OfFlow i.component i.flow FlowDescriptions))

-- Flow-Usage RTCP
abbrev pub is_rtcp : View → FlowId → Bool
is_rtcp v i = words.is_rtcp (v.shows i.session) i.component i.flow

-- Flow-Usage AF_SIGNALLING
abbrev pub is_signalling : View → FlowId → Bool
is_signalling v i = words.has_usage (v.shows i.session) i.component i.flow 2

-- its Flow-Status
abbrev pub flow_status : View → FlowId → ℕ
flow_status v i = words.flow_status (v.shows i.session) i.component i.flow

-- the Media-Type of its component, where none shows the greatest
abbrev pub media_type : View → FlowId → ℕ
media_type v i = unwrap_or (of_component v i MediaType) 0xFFFFFFFF

-- the class of its service: that of signalling, or that of its media, if it has one
abbrev pub class_of : Tables → View → FlowId → Option Class
class_of t v i = if is_signalling v i then Some t.signalling else media_class t (media_type v i)

-- towards the network, or from it
pub data Direction : Type 0 where
  Uplink Downlink : Direction

-- the field of a flow that gives its rate in that direction
abbrev pub flow_rate_field : Direction → FlowField
flow_rate_field Uplink = FlowRateUp
flow_rate_field Downlink = FlowRateDown

-- and that of a component
abbrev pub component_rate_field : Direction → ComponentField
component_rate_field Uplink = ComponentRateUp
component_rate_field Downlink = ComponentRateDown

-- the rate that requests gave it
abbrev pub given_rate : View → FlowId → Direction → Option ℕ
given_rate v i d = words.given_rate (v.shows i.session) i.component i.flow (flow_rate_field d) (component_rate_field d)

-- the rate that is asked: the one given, else for RTCP the operator's, else the cap
abbrev pub asked_rate : Tables → View → FlowId → Direction → ℕ → ℕ
asked_rate t v i d cap = unwrap_or (given_rate v i d) (if is_rtcp v i then t.rtcp_bps else cap)

-- the lesser of the rate asked and the cap
abbrev pub flow_rate : Tables → View → FlowId → Direction → ℕ → ℕ
flow_rate t v i d cap = min (asked_rate t v i d cap) cap

-- `af/` Session-Id `/` component `/` flow (this project's profile)
abbrev pub flow_rule_name : FlowId → List ℕ
flow_rule_name i = codes "af/" ++ i.session.id ++ codes "/" ++ decimal i.component ++ codes "/" ++ decimal i.flow

-- The rule of a flow with filters and a class (TS 29.213, 6.3): what its written form adds, the guaranteed rates, follows from the class.
abbrev pub flow_rule : Tables → View → FlowId → List (List ℕ) → Class → RuleValue
flow_rule t v i f c = record {
  name = flow_rule_name i;
  status = flow_status v i;
  filters = f;
  qci = c.qci;
  priority = c.priority;
  capability = c.capability;
  vulnerability = c.vulnerability;
  max_ul = flow_rate t v i Uplink c.max_ul;
  max_dl = flow_rate t v i Downlink c.max_dl;
  precedence = c.precedence;
}
