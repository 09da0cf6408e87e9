-- Where in a session a field stands, and what of a session can be removed. TS 29.214, 4.4.1 and 4.4.2: what a request leaves out stays, so each field has a place of its own.
use Rattle.std.specs.Prelude.{ℕ, Bool, false, ◌&&◌, nat_eq, List, [], ◌∷◌}
use Rattle.std.proofs.Common.{Ordering}
use Rattle.std.specs.Ordering.{nat_cmp, on}
use Rattle.pcrf_values.specs.Orders.{pair_cmp, text_cmp}

-- The fields of a session, by the AVP that gives them: Framed-IP-Address (RFC 7155, 4.4.10.5.1),
-- Called-Station-Id (RFC 7155, 4.2.5), Subscription-Id (RFC 8506, 8.46), Origin-Host and Origin-Realm
-- (RFC 6733, 6.3 and 6.4), CC-Request-Type (RFC 8506, 8.3), Framed-IPv6-Prefix (RFC 7155, 4.4.10.5.6).
pub data SessionField : Type 0 where
  FramedIpAddress CalledStationId SubscriptionIds OriginHost OriginRealm RequestType : SessionField
  FramedIpv6Prefix : SessionField

-- Of a media component: Media-Type, Flow-Status, Max-Requested-Bandwidth-UL and -DL (TS 29.214, 5.3).
pub data ComponentField : Type 0 where
  MediaType ComponentStatus ComponentRateUp ComponentRateDown : ComponentField

-- Of a flow: Flow-Description, Flow-Usage, Flow-Status, Max-Requested-Bandwidth-UL and -DL (TS 29.214, 5.3).
pub data FlowField : Type 0 where
  FlowDescriptions FlowUsage FlowStatus FlowRateUp FlowRateDown : FlowField

-- the number of a field among the fields of its kind (this project's profile)
abbrev pub session_field_number : SessionField → ℕ
session_field_number FramedIpAddress = 1
session_field_number CalledStationId = 2
session_field_number SubscriptionIds = 3
session_field_number OriginHost = 4
session_field_number OriginRealm = 5
session_field_number RequestType = 6
session_field_number FramedIpv6Prefix = 7

-- all of them, by these numbers
abbrev pub session_fields : List SessionField
session_fields =
    FramedIpAddress ∷ CalledStationId ∷ SubscriptionIds ∷ OriginHost ∷ OriginRealm ∷ RequestType
    ∷ FramedIpv6Prefix ∷ []

-- of a component's fields
abbrev pub component_field_number : ComponentField → ℕ
component_field_number MediaType = 1
component_field_number ComponentStatus = 2
component_field_number ComponentRateUp = 3
component_field_number ComponentRateDown = 4

-- of a flow's fields
abbrev pub flow_field_number : FlowField → ℕ
flow_field_number FlowDescriptions = 1
flow_field_number FlowUsage = 2
flow_field_number FlowStatus = 3
flow_field_number FlowRateUp = 4
flow_field_number FlowRateDown = 5

-- A field of the session; of a component by its Media-Component-Number; of a flow by its component's number and its own Flow-Number;
-- what was told of a rule by its Charging-Rule-Name.
pub data Place : Type 0 where
  OfSession : SessionField → Place
  OfComponent : ℕ → ComponentField → Place
  OfFlow : ℕ → ℕ → FlowField → Place
  OfRuleName : List ℕ → Place

-- a component; a flow of a component
pub data Removable : Type 0 where
  Component : ℕ → Removable
  Flow : ℕ → ℕ → Removable

-- the fields of the session, by what they say
abbrev pub address : Place
address = OfSession FramedIpAddress

-- the IPv6 prefix of its user
abbrev pub prefix : Place
prefix = OfSession FramedIpv6Prefix

-- its access point
abbrev pub apn : Place
apn = OfSession CalledStationId

-- its subscribers
abbrev pub subscribers : Place
subscribers = OfSession SubscriptionIds

-- the host of its client
abbrev pub host : Place
host = OfSession OriginHost

-- the realm of its client
abbrev pub realm : Place
realm = OfSession OriginRealm

-- the type of its last request
abbrev pub last : Place
last = OfSession RequestType

-- kind of fact, component, flow, field and name: by these letters sort the facts of a session
abbrev pub Position : Type 0
Position = ℕ × (ℕ × (ℕ × (ℕ × List ℕ)))

-- in that order
abbrev pub position_cmp : Position → Position → Ordering
position_cmp = pair_cmp nat_cmp (pair_cmp nat_cmp (pair_cmp nat_cmp (pair_cmp nat_cmp text_cmp)))

-- where a field stands among the facts (this project's profile)
abbrev pub place_position : Place → Position
place_position (OfSession f) = (2, (0, (0, (session_field_number f, []))))
place_position (OfComponent c f) = (5, (c, (0, (component_field_number f, []))))
place_position (OfFlow c n f) = (6, (c, (n, (flow_field_number f, []))))
place_position (OfRuleName t) = (7, (0, (0, (0, t))))

-- where a removal stands among the facts
abbrev pub removed_position : Removable → Position
removed_position (Component c) = (3, (c, (0, (0, []))))
removed_position (Flow c n) = (4, (c, (n, (0, []))))

-- by position
abbrev pub place_cmp : Place → Place → Ordering
place_cmp = on place_position position_cmp

-- the second is a flow of the first
abbrev pub contains : Removable → Removable → Bool
contains (Component c) (Component d) = false
contains (Component c) (Flow d n) = nat_eq c d
contains (Flow c n) r = false

-- the place is a field of it, or of a flow of it
abbrev pub covers : Removable → Place → Bool
covers (Component c) (OfSession f) = false
covers (Component c) (OfComponent d f) = nat_eq c d
covers (Component c) (OfFlow d n f) = nat_eq c d
covers (Component c) (OfRuleName t) = false
covers (Flow c n) (OfSession f) = false
covers (Flow c n) (OfComponent d f) = false
covers (Flow c n) (OfFlow d m f) = nat_eq c d && nat_eq n m
covers (Flow c n) (OfRuleName t) = false
