-- The PCC rules of a Gx session (TS 23.203, 6.3; TS 29.212, 4.3.1).
use Rattle.std.specs.Prelude.{if◌then◌else◌, List, [], ◌++◌, map, Option, Some, None, codes}
use Rattle.std.proofs.Common.{Ordering, option_map, option_and_then, unwrap_or}
use Rattle.std.specs.Ordering.{nat_cmp, on}
use Rattle.std.specs.List.{filter_map}
use Rattle.pcrf_values.specs.Orders.{pair_cmp}
use Rattle.pcrf_values.specs.Ascending.{ascending}
use Rattle.pcrf_values.specs.RuleValues.{RuleValue, rule_cmp}
use Rattle.pcrf_values.specs.declared.default_quality.DefaultQuality.{DefaultQuality}
use Rattle.pcrf_model.specs.Sessions.{Session}
use Rattle.pcrf_values.specs.Places.{FlowDescriptions, Place, OfFlow, apn}
use Rattle.pcrf_model.specs.Views.{View, Shown, text}
use Rattle.pcrf_model.specs.Live.{is_live}
use Rattle.pcrf_model.specs.Bindings.{is_bound_to}
use Rattle.pcrf_model.specs.Tables.{OperatorRule, ApnRow, Tables, apn_row}
use Rattle.pcrf_model.specs.Flows.{FlowId, filters, class_of, flow_rule}

-- the flow whose filters stand at the place
abbrev pub flow_at : Session → Place → Option FlowId
flow_at a (OfFlow c n FlowDescriptions) = Some (record { session = a; component = c; flow = n })
flow_at a p = None

-- the rule of a flow that shows filters and has a class
abbrev pub rule_of : Tables → View → FlowId → Option RuleValue
rule_of t v i = option_and_then (λ f. option_map (λ c. flow_rule t v i f c) (class_of t v i)) (filters v i)

-- the rule of the flow whose filters the place shows, if its session is bound to s
abbrev pub rule_at : Tables → View → Session → Shown → Option RuleValue
rule_at t v s x = if is_bound_to v s x.session then option_and_then (rule_of t v) (flow_at x.session x.place) else None

-- the access point of the session, as the tables have it
abbrev pub apn_of : Tables → View → Session → Option ApnRow
apn_of t v s = option_and_then (apn_row t) (text v s apn)

-- `op/` and the name in the table (this project's profile)
abbrev pub operator_rule : OperatorRule → RuleValue
operator_rule r = record {
  name = codes "op/" ++ r.name;
  status = r.status;
  filters = r.filters;
  qci = r.class.qci;
  priority = r.class.priority;
  capability = r.class.capability;
  vulnerability = r.class.vulnerability;
  max_ul = r.class.max_ul;
  max_dl = r.class.max_dl;
  precedence = r.class.precedence;
}

-- the rules that the operator gives each session of its access point
abbrev pub operator_rules : Tables → View → Session → List RuleValue
operator_rules t v s = unwrap_or (option_map (λ (r : ApnRow). map operator_rule r.rules) (apn_of t v s)) []

-- the rules of the flows of the AF sessions that are bound to it
abbrev pub flow_rules : Tables → View → Session → List RuleValue
flow_rules t v s = filter_map (rule_at t v s) v.all

-- by precedence, and then by name (names differ, so that what follows in the order of rules never counts)
abbrev pub listed_cmp : RuleValue → RuleValue → Ordering
listed_cmp = on (λ r. (r.precedence, r)) (pair_cmp nat_cmp rule_cmp)

-- the rules of a live session, by precedence and name; a session that is not live has none
unfoldable pub rules : Tables → View → Session → List RuleValue
rules t v s = if is_live v s then ascending listed_cmp (operator_rules t v s ++ flow_rules t v s) else []

-- the default quality of service of the access point that the session shows
abbrev pub quality_of : Tables → View → Session → Option DefaultQuality
quality_of t v s = option_and_then (λ (r : ApnRow). r.default) (apn_of t v s)
