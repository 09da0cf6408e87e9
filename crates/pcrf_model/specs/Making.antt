-- The facts that accepted requests and pushes make.
use Rattle.std.specs.Prelude.{ℕ, ◌+◌, ◌==◌, Bool, false, if◌then◌else◌, List, [], ◌∷◌, ◌++◌, map, Option, Some, None}
use Rattle.std.proofs.Common.{option_map, option_to_list, unwrap_or, flat_map}
use Rattle.pcrf_values.specs.Ascending.{ascending}
use Rattle.pcrf_values.specs.declared.tag.Tag.{Tag}
use Rattle.pcrf_values.specs.RuleValues.{RuleValue, DeltaValue}
use Rattle.pcrf_values.specs.Numbers.{request_kind_number, flow_status_removed}
use Rattle.pcrf_values.specs.Places.{SessionField, FramedIpAddress, CalledStationId, SubscriptionIds, OriginHost, OriginRealm, RequestType, FramedIpv6Prefix, session_fields, MediaType, ComponentStatus, ComponentRateUp, ComponentRateDown, FlowDescriptions, FlowUsage, FlowStatus, FlowRateUp, FlowRateDown, Place, OfSession, OfComponent, OfFlow, OfRuleName, Component, Flow}
use Rattle.pcrf_values.specs.Values.{Value, Number, Text, Address, Subscribers, Filters, Untold, Told, Prefix}
use Rattle.pcrf_values.specs.Facts.{Fact, End, Removed, Field, fact_cmp}
use Rattle.pcrf_model.specs.Sessions.{Session}
use Rattle.pcrf_model.specs.Holdings.{Holding}
use Rattle.pcrf_model.specs.Operations.{Operation}
use Rattle.pcrf_model.specs.Requests.{UserValue, CcrValue, FlowValue, ComponentValue, AarValue}

-- the fact that a request gives, if it gives it
abbrev pub given_fact : {A : Type 0} → Place → Tag → (A → Value) → Option A → List Fact
given_fact p t as_value x = option_to_list (option_map (λ y. Field p t (as_value y)) x)

-- what is said of a user in each field of a session
abbrev pub user_says : UserValue → SessionField → Option Value
user_says u FramedIpAddress = option_map Address u.address
user_says u FramedIpv6Prefix = option_map Prefix u.prefix
user_says u CalledStationId = option_map Text u.apn
user_says u SubscriptionIds = option_map Subscribers u.subscribers
user_says u f = None

-- what a request of either interface says in each: its host, its realm, its type, and of its user
abbrev pub request_says : UserValue → List ℕ → List ℕ → ℕ → SessionField → Option Value
request_says u of_host of_realm kind OriginHost = Some (Text of_host)
request_says u of_host of_realm kind OriginRealm = Some (Text of_realm)
request_says u of_host of_realm kind RequestType = Some (Number kind)
request_says u of_host of_realm kind f = user_says u f

-- what is said in each field of a session, as facts under one tag
abbrev pub said_facts : Tag → (SessionField → Option Value) → List Fact
said_facts t says = flat_map (λ f. given_fact (OfSession f) t (λ x. x) (says f)) session_fields

-- ---- Gx (TS 29.212, 4.5.1)

-- the fields of an initial request or an update
abbrev pub ccr_fields : CcrValue → Tag → List Fact
ccr_fields q t = said_facts t (request_says q.user q.host q.realm (request_kind_number q.kind))

-- what the gateway is told by a difference: each removed name, and each installed rule
abbrev pub told_facts : Tag → DeltaValue → List Fact
told_facts t d =
    map (λ n. Field (OfRuleName n) t Untold) d.removed
    ++ map (λ (r : RuleValue). Field (OfRuleName r.name) t (Told r)) d.installed

-- ---- Rx (TS 29.214, 4.4.1 and 4.4.2): what is left out stays

-- Flow-Status REMOVED
abbrev pub is_removed : Option ℕ → Bool
is_removed s = unwrap_or (option_map (λ n. n == flow_status_removed) s) false

-- a flow that is removed makes only the fact that it is
abbrev pub flow_facts : ℕ → Tag → FlowValue → List Fact
flow_facts c t f =
    if is_removed f.status then Removed (Flow c f.number) ∷ []
    else (given_fact (OfFlow c f.number FlowDescriptions) t Filters f.filters
    ++ given_fact (OfFlow c f.number FlowUsage) t Number f.usage
    ++ given_fact (OfFlow c f.number FlowStatus) t Number f.status
    ++ given_fact (OfFlow c f.number FlowRateUp) t Number f.rate_up
    ++ given_fact (OfFlow c f.number FlowRateDown) t Number f.rate_down)

-- a component that is removed makes only the fact that it is, whatever flows are described with it
abbrev pub component_facts : Tag → ComponentValue → List Fact
component_facts t c =
    if is_removed c.status then Removed (Component c.number) ∷ []
    else (given_fact (OfComponent c.number MediaType) t Number c.media
    ++ given_fact (OfComponent c.number ComponentStatus) t Number c.status
    ++ given_fact (OfComponent c.number ComponentRateUp) t Number c.rate_up
    ++ given_fact (OfComponent c.number ComponentRateDown) t Number c.rate_down
    ++ flat_map (flow_facts c.number t) c.flows)

-- the facts of an AA request, component by component; what stands for the type of its request is 0
abbrev pub aar_facts : AarValue → Tag → List Fact
aar_facts q t =
    said_facts t (request_says q.user q.host q.realm 0)
    ++ flat_map (component_facts t) q.components

-- ---- stamps

-- the tag of the next operation of a site on its holding: CC-Request-Number for the fields of Gx, 0 for all else
abbrev pub next_tag : ℕ → Holding → ℕ → Tag
next_tag i h number = record { number = number; counter = h.clock + 1; site = i }

-- the next operation of a site on its holding: its counter is the clock and one more
abbrev pub next_operation : ℕ → Holding → ℕ → Session → List Fact → Operation
next_operation i h number s facts = record { counter = h.clock + 1; site = i; number = number; session = s; facts = ascending fact_cmp facts }

-- the end of a session alone (TS 29.212, 4.5.7; TS 29.214, 4.4.4)
abbrev pub end_operation : ℕ → Holding → ℕ → Session → Operation
end_operation i h number s = next_operation i h number s (End ∷ [])
