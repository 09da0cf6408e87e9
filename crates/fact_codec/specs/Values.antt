-- What typed values say, as the definitions of facts have it: a field and its value.
use Rattle.std.specs.Prelude.{ℕ, List, Option}
use Rattle.pcrf_values.specs.Places.{SessionField, FramedIpAddress, CalledStationId, SubscriptionIds, OriginHost, OriginRealm, RequestType, FramedIpv6Prefix, ComponentField, MediaType, ComponentStatus, ComponentRateUp, ComponentRateDown, FlowField, FlowDescriptions, FlowUsage, FlowStatus, FlowRateUp, FlowRateDown}
use Rattle.pcrf_values.specs.Values.{Value, Number, Text, Filters}
use Rattle.pcrf_values.specs.Values as values
use Rattle.pcrf_values.specs.RuleValues.{RuleValue}
use Rattle.lattice_core.specs.SessionFacts.{address_value}
use Rattle.lattice_core.specs.declared.fact.SessionValue.{SessionValue}
use Rattle.lattice_core.specs.declared.fact.SessionValue.TheVariants.{Address, Apn, Subscribers, Host, Realm, Last, Prefix}
use Rattle.gx_records.specs.GxFacts.{told_value}
use Rattle.af_records.specs.declared.fact.ComponentValue.{ComponentValue}
use Rattle.af_records.specs.declared.fact.ComponentValue.TheVariants as component_value
use Rattle.af_records.specs.declared.fact.FlowValue.{FlowValue}
use Rattle.af_records.specs.declared.fact.FlowValue.TheVariants as flow_value

-- a value of a field of a session
abbrev pub session_says : SessionValue ℕ → SessionField × Value
session_says (Address a) = (FramedIpAddress, address_value a)
session_says (Apn t) = (CalledStationId, Text t)
session_says (Subscribers ss) = (SubscriptionIds, values.Subscribers ss)
session_says (Host t) = (OriginHost, Text t)
session_says (Realm t) = (OriginRealm, Text t)
session_says (Last n) = (RequestType, Number n)
session_says (Prefix p) = (FramedIpv6Prefix, values.Prefix p)

-- of a component
abbrev pub component_says : ComponentValue → ComponentField × Value
component_says (component_value.MediaType n) = (MediaType, Number n)
component_says (component_value.Status n) = (ComponentStatus, Number n)
component_says (component_value.RateUp n) = (ComponentRateUp, Number n)
component_says (component_value.RateDown n) = (ComponentRateDown, Number n)

-- of a flow
abbrev pub flow_says : FlowValue → FlowField × Value
flow_says (flow_value.Descriptions fs) = (FlowDescriptions, Filters fs)
flow_says (flow_value.Usage n) = (FlowUsage, Number n)
flow_says (flow_value.Status n) = (FlowStatus, Number n)
flow_says (flow_value.RateUp n) = (FlowRateUp, Number n)
flow_says (flow_value.RateDown n) = (FlowRateDown, Number n)

-- of a rule's name
abbrev pub told_says : List ℕ × Option RuleValue → List ℕ × Value
told_says x = (x.0, told_value x.1)
