-- The facts of an AF session.
use Rattle.std.specs.Prelude.{List, [], ◌∷◌}
use Rattle.pcrf_values.specs.Places.{ComponentField, MediaType, ComponentStatus, ComponentRateUp, ComponentRateDown, FlowField, FlowDescriptions, FlowUsage, FlowStatus, FlowRateUp, FlowRateDown, OfComponent, OfFlow}
use Rattle.pcrf_values.specs.Places as places
use Rattle.pcrf_values.specs.Values.{Number, Filters}
use Rattle.pcrf_values.specs.Facts.{Fact, Removed, Field}
use Rattle.pcrf_values.specs.Facts as facts
use Rattle.lattice_core.specs.SessionFacts.{session_fact}
use Rattle.af_records.specs.declared.fact.ComponentValue.TheVariants as component_value
use Rattle.af_records.specs.declared.fact.FlowValue.TheVariants as flow_value
use Rattle.af_records.specs.declared.fact.AfFact.{AfFact}
use Rattle.af_records.specs.declared.fact.AfFact.TheVariants.{End, ComponentRemoved, FlowRemoved, Aborted, Session, Component, Flow}

-- a fact as what it says
abbrev pub fact_of : AfFact → Fact
fact_of End = facts.End
fact_of (ComponentRemoved c) = Removed (places.Component c)
fact_of (FlowRemoved c n) = Removed (places.Flow c n)
fact_of Aborted = facts.Aborted
fact_of (Session t x) = session_fact t x
fact_of (Component c t (component_value.MediaType x)) = Field (OfComponent c MediaType) t (Number x)
fact_of (Component c t (component_value.Status x)) = Field (OfComponent c ComponentStatus) t (Number x)
fact_of (Component c t (component_value.RateUp x)) = Field (OfComponent c ComponentRateUp) t (Number x)
fact_of (Component c t (component_value.RateDown x)) = Field (OfComponent c ComponentRateDown) t (Number x)
fact_of (Flow c n t (flow_value.Descriptions x)) = Field (OfFlow c n FlowDescriptions) t (Filters x)
fact_of (Flow c n t (flow_value.Usage x)) = Field (OfFlow c n FlowUsage) t (Number x)
fact_of (Flow c n t (flow_value.Status x)) = Field (OfFlow c n FlowStatus) t (Number x)
fact_of (Flow c n t (flow_value.RateUp x)) = Field (OfFlow c n FlowRateUp) t (Number x)
fact_of (Flow c n t (flow_value.RateDown x)) = Field (OfFlow c n FlowRateDown) t (Number x)

-- the fields of a component
abbrev pub component_fields : List ComponentField
component_fields = MediaType ∷ ComponentStatus ∷ ComponentRateUp ∷ ComponentRateDown ∷ []

-- the fields of a flow
abbrev pub flow_fields : List FlowField
flow_fields = FlowDescriptions ∷ FlowUsage ∷ FlowStatus ∷ FlowRateUp ∷ FlowRateDown ∷ []
