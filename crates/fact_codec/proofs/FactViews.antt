-- Typed facts as facts of the definitions: what a field of each kind says.
use Rattle.std.proofs.Common.{◌≡◌, ℕ, refl}
use Rattle.pcrf_values.specs.declared.tag.Tag.{Tag}
use Rattle.pcrf_values.specs.Places.{OfSession, OfComponent, OfFlow}
use Rattle.pcrf_values.specs.Facts.{Field}
use Rattle.lattice_core.specs.SessionFacts.{session_fact}
use Rattle.lattice_core.specs.declared.fact.SessionValue.{SessionValue}
use Rattle.lattice_core.specs.declared.fact.SessionValue.TheVariants.{Address, Apn, Subscribers, Host, Realm, Last, Prefix}
use Rattle.af_records.specs.RecordFacts.{fact_of}
use Rattle.af_records.specs.declared.fact.AfFact.TheVariants.{Component, Flow}
use Rattle.af_records.specs.declared.fact.ComponentValue.{ComponentValue}
use Rattle.af_records.specs.declared.fact.ComponentValue.TheVariants as component_value
use Rattle.af_records.specs.declared.fact.FlowValue.{FlowValue}
use Rattle.af_records.specs.declared.fact.FlowValue.TheVariants as flow_value
use Rattle.fact_codec.specs.Values.{session_says, component_says, flow_says}

-- of a session
pub session_is : (t : Tag) (x : SessionValue ℕ) → session_fact t x ≡ Field (OfSession (session_says x).0) t (session_says x).1
session_is t (Address a) = refl
session_is t (Apn n) = refl
session_is t (Subscribers ss) = refl
session_is t (Host n) = refl
session_is t (Realm n) = refl
session_is t (Last n) = refl
session_is t (Prefix p) = refl

-- of a component
pub component_is : (c : ℕ) (t : Tag) (x : ComponentValue) → fact_of (Component c t x) ≡ Field (OfComponent c (component_says x).0) t (component_says x).1
component_is c t (component_value.MediaType n) = refl
component_is c t (component_value.Status n) = refl
component_is c t (component_value.RateUp n) = refl
component_is c t (component_value.RateDown n) = refl

-- of a flow
pub flow_is : (c n : ℕ) (t : Tag) (x : FlowValue) → fact_of (Flow c n t x) ≡ Field (OfFlow c n (flow_says x).0) t (flow_says x).1
flow_is c n t (flow_value.Descriptions fs) = refl
flow_is c n t (flow_value.Usage m) = refl
flow_is c n t (flow_value.Status m) = refl
flow_is c n t (flow_value.RateUp m) = refl
flow_is c n t (flow_value.RateDown m) = refl
