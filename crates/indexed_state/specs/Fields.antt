-- The fields that the facts of a session show.
use Rattle.std.specs.Prelude.{List, [], ◌∷◌, Option, Some, None}
use Rattle.std.proofs.Common.{option_map}
use Rattle.std.specs.List.{filter_map}
use Rattle.pcrf_values.specs.Places.{SessionField, FramedIpAddress, CalledStationId, SubscriptionIds, OriginHost, OriginRealm, RequestType, FramedIpv6Prefix, OfSession}
use Rattle.pcrf_values.specs.Values.{Entry}
use Rattle.pcrf_values.specs.Facts as facts
use Rattle.pcrf_values.specs.Facts.{Fact}
use Rattle.pcrf_values.specs.Held.{kept_list}
use Rattle.pcrf_values.specs.Live.{Shows}
use Rattle.pcrf_model.specs.SiteOverviews.{FieldShown, field_shown}
use Rattle.af_records.specs.declared.fact.AfFact.{AfFact}
use Rattle.af_records.specs.declared.fact.AfFact.TheVariants as af_fact
use Rattle.indexed_state.specs.declared.seen.AfField.{AfField}
use Rattle.indexed_state.specs.declared.seen.AfField.TheVariants.{Session, Component, Flow}

-- the field that the fact gives
abbrev pub field_of : Fact → Option FieldShown
field_of facts.End = None
field_of (facts.Removed r) = None
field_of (facts.Field p t x) = field_shown p x
field_of facts.Aborted = None

-- those that are kept, ascending by their places
abbrev pub fields_of : List Fact → List FieldShown
fields_of facts = filter_map field_of (kept_list facts)

-- ---- fields of the session

-- what a place shows, without its tag
abbrev pub field_at : Shows → SessionField → Option FieldShown
field_at shows f = option_map (λ (e : Entry). (OfSession f, e.1)) (shows (OfSession f))

-- of these places
abbrev pub shown_at : Shows → List SessionField → List FieldShown
shown_at shows fs = filter_map (field_at shows) fs

-- those of the user but for its prefix, those of the client, and the prefix
abbrev pub user_places : List SessionField
user_places = FramedIpAddress ∷ CalledStationId ∷ SubscriptionIds ∷ []

abbrev pub client_places : List SessionField
client_places = OriginHost ∷ OriginRealm ∷ RequestType ∷ []

abbrev pub prefix_places : List SessionField
prefix_places = FramedIpv6Prefix ∷ []

-- ---- facts of the code

-- the field that the fact gives
abbrev pub af_field : AfFact → Option AfField
af_field af_fact.End = None
af_field af_fact.Aborted = None
af_field (af_fact.ComponentRemoved c) = None
af_field (af_fact.FlowRemoved c n) = None
af_field (af_fact.Session t x) = Some (Session x)
af_field (af_fact.Component c t x) = Some (Component c x)
af_field (af_fact.Flow c n t x) = Some (Flow c n x)
