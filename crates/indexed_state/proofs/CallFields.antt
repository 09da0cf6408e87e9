-- The fields that facts of an AF session give are those that the facts show.
use Rattle.std.proofs.Common.{◌≡◌, List, [], ◌∷◌, map, Option, Some, None, refl, ◌∙◌, option_map}
use Rattle.std.specs.List.{filter_map, cons_option}
use Rattle.lattice_core.specs.declared.fact.SessionValue.TheVariants as session_value
use Rattle.af_records.specs.RecordFacts.{fact_of}
use Rattle.af_records.specs.declared.fact.AfFact.{AfFact}
use Rattle.af_records.specs.declared.fact.AfFact.TheVariants.{End, ComponentRemoved, FlowRemoved, Aborted, Session, Component, Flow}
use Rattle.af_records.specs.declared.fact.ComponentValue.TheVariants as component_value
use Rattle.af_records.specs.declared.fact.FlowValue.TheVariants as flow_value
use Rattle.indexed_state.specs.Fields.{field_of, af_field}
use Rattle.indexed_state.specs.Shown.{af_field_shown}

-- of one fact
field_given : (f : AfFact) → option_map af_field_shown (af_field f) ≡ field_of (fact_of f)
field_given End = refl
field_given (ComponentRemoved c) = refl
field_given (FlowRemoved c n) = refl
field_given Aborted = refl
field_given (Session t (session_value.Address x)) = refl
field_given (Session t (session_value.Apn x)) = refl
field_given (Session t (session_value.Subscribers x)) = refl
field_given (Session t (session_value.Host x)) = refl
field_given (Session t (session_value.Realm x)) = refl
field_given (Session t (session_value.Last x)) = refl
field_given (Session t (session_value.Prefix x)) = refl
field_given (Component c t (component_value.MediaType x)) = refl
field_given (Component c t (component_value.Status x)) = refl
field_given (Component c t (component_value.RateUp x)) = refl
field_given (Component c t (component_value.RateDown x)) = refl
field_given (Flow c n t (flow_value.Descriptions x)) = refl
field_given (Flow c n t (flow_value.Usage x)) = refl
field_given (Flow c n t (flow_value.Status x)) = refl
field_given (Flow c n t (flow_value.RateUp x)) = refl
field_given (Flow c n t (flow_value.RateDown x)) = refl

-- one more, if it is there
mapped : {A B : Type 0} (g : A → B) (o : Option A) (xs : List A) → map g (cons_option o xs) ≡ cons_option (option_map g o) (map g xs)
mapped g None xs = refl
mapped g (Some x) xs = refl

-- of all
pub fields_given : (fs : List AfFact) → map af_field_shown (filter_map af_field fs) ≡ filter_map field_of (map fact_of fs)
fields_given [] = refl
fields_given (f ∷ fs) = mapped af_field_shown (af_field f) (filter_map af_field fs) ∙ (λ i. cons_option (field_given f i) (fields_given fs i))
