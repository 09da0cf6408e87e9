-- The rules of flows, session by session. What a flow shows is read of the facts of its session alone.
use Rattle.std.specs.Prelude.{◌≡◌, ℕ, ◌<◌, ◌^◌, true, if◌then◌else◌, List, [], ◌∷◌}
use Rattle.std.specs.List.{filter_map, flat_map}
use Rattle.pcrf_values.specs.RuleValues.{RuleValue}
use Rattle.pcrf_values.specs.Facts.{Fact}
use Rattle.pcrf_values.specs.FlowWords.{flows}
use Rattle.pcrf_model.specs.Sessions.{Session, af}
use Rattle.pcrf_model.specs.Views.{View}
use Rattle.pcrf_model.specs.Bindings.{is_bound_to}
use Rattle.pcrf_model.specs.Tables.{Tables}
use Rattle.pcrf_model.specs.Flows.{FlowId}
use Rattle.pcrf_model.specs.Rules.{rule_of}
use Rattle.bind_index.specs.Beside.{beside}
use Rattle.pcc_rules.specs.declared.derivation.Flow.{Flow}

-- what is read of an AF session of these facts, alone
abbrev pub alone : List Fact → View
alone facts = beside [] facts

-- the flow of these numbers
abbrev pub flow_of : List ℕ → ℕ → ℕ → FlowId
flow_of id component flow = record { session = af id; component = component; flow = flow }

-- the flow of the code, and the facts of its session
abbrev pub flow_id : Flow → FlowId
flow_id f = flow_of f.session.now f.component f.number

abbrev pub flow_facts : Flow → List Fact
flow_facts f = f.known.now

-- the rules of these flows of a session
abbrev pub rules_among : Tables → List ℕ → List Fact → List (ℕ × ℕ) → List RuleValue
rules_among t id facts = filter_map (λ (f : ℕ × ℕ). rule_of t (alone facts) (flow_of id f.0 f.1))

-- those of all its flows
abbrev pub rules_of_flows : Tables → List ℕ → List Fact → List RuleValue
rules_of_flows t id facts = rules_among t id facts (flows facts)

-- and of the sessions among these that are bound to s
abbrev pub rules_of_sessions : Tables → View → Session → List (List ℕ × List Fact) → List RuleValue
rules_of_sessions t v s = flat_map (λ (e : List ℕ × List Fact). if is_bound_to v s (af e.0) then rules_of_flows t e.0 e.1 else [])

-- ---- the numbers of flows have 32 bits

-- those of a flow
abbrev pub IsLow : ℕ × ℕ → Type 0
IsLow f = (f.0 < 2 ^ 32) × (f.1 < 2 ^ 32)

-- of each of these
abbrev pub AreLow : List (ℕ × ℕ) → Type 0
AreLow [] = Unit {0}
AreLow (f ∷ fs) = IsLow f × AreLow fs

-- of each flow of the sessions among these that are bound to s
abbrev pub AreLowWhereBound : View → Session → List (List ℕ × List Fact) → Type 0
AreLowWhereBound v s [] = Unit {0}
AreLowWhereBound v s (e ∷ es) = (is_bound_to v s (af e.0) ≡ true → AreLow (flows e.1)) × AreLowWhereBound v s es
