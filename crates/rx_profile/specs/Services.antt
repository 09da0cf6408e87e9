-- What the components of a request have to keep among themselves (TS 29.214, 5.5), besides their rows.
use Rattle.std.specs.Prelude.{ℕ, Bool, false, ◌||◌, ◌==◌, if◌then◌else◌, List, [], ◌∷◌, length, map, Option, Some, None, unwrap_or}
use Rattle.std.specs.List.{list_any}
use Rattle.pcrf_values.specs.Filters.{is_filter}
use Rattle.pcrf_values.specs.Results.{invalid_service_information, filter_restrictions}
use Rattle.pcrf_values.specs.declared.refusal.Refusal.{Refusal}
use Rattle.pcrf_model.specs.Requests.{FlowValue, ComponentValue}
use Rattle.dia_base.specs.Rows.{or_else, refusal_among}

-- ---- numbers

-- some number comes twice
abbrev pub repeats : List ℕ → Bool
repeats [] = false
repeats (n ∷ ns) = list_any (λ m. m == n) ns || repeats ns

-- the Flow-Numbers of flows
abbrev pub flow_numbers : List FlowValue → List ℕ
flow_numbers = map (λ (f : FlowValue). f.number)

-- the Media-Component-Numbers of components
abbrev pub component_numbers : List ComponentValue → List ℕ
component_numbers = map (λ (c : ComponentValue). c.number)

-- a number comes twice among those that have to tell their bearers apart
abbrev pub repeat_refusal : List ℕ → Option Refusal
repeat_refusal numbers = if repeats numbers then Some invalid_service_information else None

-- a flow's number comes twice in its component
abbrev pub flow_numbers_refusal : ComponentValue → Option Refusal
flow_numbers_refusal c = repeat_refusal (flow_numbers c.flows)

-- a component's number comes twice in the request, or a flow's in its component
abbrev pub numbers_refusal : List ComponentValue → Option Refusal
numbers_refusal components =
    or_else (repeat_refusal (component_numbers components)) (refusal_among flow_numbers_refusal components)

-- ---- filters

abbrev pub filter_refusal : List ℕ → Option Refusal
filter_refusal text = if is_filter text then None else Some filter_restrictions

-- some filter of a flow isn't one
abbrev pub flow_filters_refusal : FlowValue → Option Refusal
flow_filters_refusal f = refusal_among filter_refusal (unwrap_or f.filters [])

-- some filter of a component's flows isn't one
abbrev pub filters_refusal : ComponentValue → Option Refusal
filters_refusal c = refusal_among flow_filters_refusal c.flows

-- ---- both

-- The first refusal of the components of a request that breaks no row: all numbers come before all filters.
abbrev pub services_refusal : List ComponentValue → Option Refusal
services_refusal components = or_else (numbers_refusal components) (refusal_among filters_refusal components)
