-- The facts of AF sessions by their positions and entries.
use Rattle.std.proofs.Common.{◌≡◌, ℕ, [], Option, Some, None, is_some, refl, sym, ap, ◌∙◌, arith, option_map, option_and_then, Equal}
use Rattle.pcrf_values.specs.declared.tag.Tag.{Tag}
use Rattle.pcrf_values.specs.Values.{Value, Number}
use Rattle.pcrf_values.specs.Facts.{position, entry}
use Rattle.lattice_core.specs.SessionValues.{entry_by, session_value}
use Rattle.lattice_core.specs.SessionFacts.{session_fact}
use Rattle.lattice_core.specs.declared.fact.SessionValue.{SessionValue}
use Rattle.lattice_core.specs.declared.fact.SessionValue.TheVariants as session
use Rattle.af_records.specs.declared.fact.ComponentValue.{ComponentValue}
use Rattle.af_records.specs.declared.fact.ComponentValue.TheVariants as component
use Rattle.af_records.specs.declared.fact.FlowValue.{FlowValue}
use Rattle.af_records.specs.declared.fact.FlowValue.TheVariants as flow
use Rattle.af_records.specs.declared.fact.AfFact.TheVariants.{Component, Flow}
use Rattle.af_records.specs.FieldValues.{component_value, flow_number, flow_value}
use Rattle.af_records.specs.RecordFacts.{fact_of}

-- where a fact of a flow stands
pub flow_at : (c n : ℕ) (t : Tag) (x : FlowValue) → position (fact_of (Flow c n t x)) ≡ (6, (c, (n, (flow_number x, []))))
flow_at c n t (flow.Descriptions x) = refl
flow_at c n t (flow.Usage x) = refl
flow_at c n t (flow.Status x) = refl
flow_at c n t (flow.RateUp x) = refl
flow_at c n t (flow.RateDown x) = refl

-- what they say
pub session_says : (t : Tag) (x : SessionValue ℕ) → entry (session_fact t x) ≡ Some (t, session_value x)
session_says t (session.Address x) = refl
session_says t (session.Apn x) = refl
session_says t (session.Subscribers x) = refl
session_says t (session.Host x) = refl
session_says t (session.Realm x) = refl
session_says t (session.Last x) = refl
session_says t (session.Prefix x) = refl

-- of a component
pub component_says : (c : ℕ) (t : Tag) (x : ComponentValue) → entry (fact_of (Component c t x)) ≡ Some (t, Number (component_value x))
component_says c t (component.MediaType x) = refl
component_says c t (component.Status x) = refl
component_says c t (component.RateUp x) = refl
component_says c t (component.RateDown x) = refl

-- of a flow
pub flow_says : (c n : ℕ) (t : Tag) (x : FlowValue) → entry (fact_of (Flow c n t x)) ≡ Some (t, flow_value x)
flow_says c n t (flow.Descriptions x) = refl
flow_says c n t (flow.Usage x) = refl
flow_says c n t (flow.Status x) = refl
flow_says c n t (flow.RateUp x) = refl
flow_says c n t (flow.RateDown x) = refl

-- what is there, of any type
pub said : {T : Type 0} (make : T → Value) (o : Option (Tag × T)) → is_some (entry_by make o) ≡ is_some o
said make None = refl
said make (Some e) = refl
