-- What the code sees, as the definitions have it.
use Rattle.std.specs.Prelude.{ℕ, List, [], ◌∷◌, ◌++◌, map, Some}
use Rattle.std.proofs.Common.{option_map}
use Rattle.std.specs.List.{cons_option}
use Rattle.std.specs.declared.net.ipv4_addr.Ipv4Addr.{Ipv4Addr}
use Rattle.pcrf_values.specs.Places as places
use Rattle.pcrf_values.specs.Places.{OfComponent, OfFlow}
use Rattle.pcrf_values.specs.Prefixes.{Ipv6Prefix}
use Rattle.pcrf_values.specs.Values.{Text, Subscribers, Number, Filters, Prefix}
use Rattle.pcrf_model.specs.SiteOverviews.{FieldShown, GxShown, AfShown, SessionValue, SiteOverview}
use Rattle.pcrf_model.specs.SiteOverviews as seen
use Rattle.lattice_core.specs.SessionFacts.{address_value}
use Rattle.lattice_core.specs.declared.fact.SessionValue.TheVariants as session_value
use Rattle.af_records.specs.declared.fact.ComponentValue.TheVariants as component_value
use Rattle.af_records.specs.declared.fact.FlowValue.TheVariants as flow_value
use Rattle.indexed_state.specs.declared.seen.SessionSeen.{SessionSeen}
use Rattle.indexed_state.specs.declared.seen.SessionSeen.TheVariants as on
use Rattle.indexed_state.specs.declared.seen.GxUser.{GxUser}
use Rattle.indexed_state.specs.declared.seen.GxClient.{GxClient}
use Rattle.indexed_state.specs.declared.seen.GxSeen.{GxSeen}
use Rattle.indexed_state.specs.declared.seen.AfField.{AfField}
use Rattle.indexed_state.specs.declared.seen.AfField.TheVariants.{Session, Component, Flow}
use Rattle.indexed_state.specs.declared.seen.AfSeen.{AfSeen}
use Rattle.indexed_state.specs.declared.seen.SiteOverview as code

-- by what is seen of a live one
abbrev pub session_seen : {S T : Type 0} → (S → T) → SessionSeen S → SessionValue T
session_seen f on.Ended = seen.Ended
session_seen f on.Partial = seen.Partial
session_seen f (on.Live x) = seen.Live (f x)

-- ---- gateways

-- an address and a prefix, as fields
abbrev pub address_field : Ipv4Addr → FieldShown
address_field a = (places.address, address_value a)

abbrev pub prefix_field : Ipv6Prefix → FieldShown
prefix_field p = (places.prefix, Prefix p)

-- the fields of the user but for its prefix
abbrev pub user_fields : GxUser → List FieldShown
user_fields u = cons_option (option_map address_field u.address) ((places.apn, Text u.apn) ∷ (places.subscribers, Subscribers u.subscribers) ∷ [])

-- and that, the last field of a session
abbrev pub prefix_fields : GxUser → List FieldShown
prefix_fields u = cons_option (option_map prefix_field u.prefix) []

-- and of the client
abbrev pub client_fields : GxClient → List FieldShown
client_fields c = (places.host, Text c.host) ∷ (places.realm, Text c.realm) ∷ (places.last, Number c.last) ∷ []

-- what a live one shows
abbrev pub gx_shown : GxSeen → GxShown
gx_shown x = record {
  fields = user_fields x.user ++ client_fields x.client ++ prefix_fields x.user;
  home = Some x.home;
  rules = x.rules.items;
  told = x.told;
}

-- of any
abbrev pub gx_session : SessionSeen GxSeen → SessionValue GxShown
gx_session = session_seen gx_shown

-- with its Session-Id
abbrev pub gx_pair : List ℕ × SessionSeen GxSeen → List ℕ × SessionValue GxShown
gx_pair p = (p.0, gx_session p.1)

-- ---- calls

-- a field
abbrev pub af_field_shown : AfField → FieldShown
af_field_shown (Session (session_value.Address x)) = (places.address, address_value x)
af_field_shown (Session (session_value.Apn x)) = (places.apn, Text x)
af_field_shown (Session (session_value.Subscribers x)) = (places.subscribers, Subscribers x)
af_field_shown (Session (session_value.Host x)) = (places.host, Text x)
af_field_shown (Session (session_value.Realm x)) = (places.realm, Text x)
af_field_shown (Session (session_value.Last x)) = (places.last, Number x)
af_field_shown (Session (session_value.Prefix x)) = prefix_field x
af_field_shown (Component c (component_value.MediaType x)) = (OfComponent c places.MediaType, Number x)
af_field_shown (Component c (component_value.Status x)) = (OfComponent c places.ComponentStatus, Number x)
af_field_shown (Component c (component_value.RateUp x)) = (OfComponent c places.ComponentRateUp, Number x)
af_field_shown (Component c (component_value.RateDown x)) = (OfComponent c places.ComponentRateDown, Number x)
af_field_shown (Flow c n (flow_value.Descriptions x)) = (OfFlow c n places.FlowDescriptions, Filters x)
af_field_shown (Flow c n (flow_value.Usage x)) = (OfFlow c n places.FlowUsage, Number x)
af_field_shown (Flow c n (flow_value.Status x)) = (OfFlow c n places.FlowStatus, Number x)
af_field_shown (Flow c n (flow_value.RateUp x)) = (OfFlow c n places.FlowRateUp, Number x)
af_field_shown (Flow c n (flow_value.RateDown x)) = (OfFlow c n places.FlowRateDown, Number x)

-- what a live one shows
abbrev pub af_shown : AfSeen → AfShown
af_shown x = record { fields = map af_field_shown x.fields.items; binding = x.binding; aborted = x.aborted }

-- of any
abbrev pub af_session : SessionSeen AfSeen → SessionValue AfShown
af_session = session_seen af_shown

-- with its Session-Id
abbrev pub af_pair : List ℕ × SessionSeen AfSeen → List ℕ × SessionValue AfShown
af_pair p = (p.0, af_session p.1)

-- ---- all

-- all that is seen
abbrev pub value_view : code.SiteOverview → SiteOverview
value_view x = record { clock = x.clock; gx = map gx_pair x.gx.items; af = map af_pair x.af.items }
