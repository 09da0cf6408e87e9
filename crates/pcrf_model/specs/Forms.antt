-- The form of facts, operations and holdings, of requests as they are read, and of operator tables (this project's profile): which facts a session of
-- each kind may have, and within which ranges. All of it can be decided.
use Rattle.std.specs.Prelude.{ℕ, ◌^◌, ◌==◌, Bool, true, false, not, ◌&&◌, nat_lt, nat_le, List, [], ◌∷◌, length, map, Option}
use Rattle.std.proofs.Common.{Ordering, option_map, unwrap_or}
use Rattle.std.specs.Ordering.{is_eq, is_lt}
use Rattle.std.specs.List.{list_any, list_all}
use Rattle.pcrf_values.specs.Orders.{text_cmp}
use Rattle.pcrf_values.specs.Tags.{tag_cmp}
use Rattle.pcrf_values.specs.Limits.{session_id_limit, identity_limit, apn_limit, subscription_data_limit, subscribers_limit, filters_limit, filter_limit, rule_name_limit, operator_rule_name_limit, last_counter, site_limit}
use Rattle.pcrf_values.specs.RuleValues.{RuleValue}
use Rattle.pcrf_values.specs.Subscribers.{subscriber_cmp}
use Rattle.pcrf_values.specs.Texts.{small_letters}
use Rattle.pcrf_values.specs.Places.{SessionField, FramedIpAddress, CalledStationId, SubscriptionIds, OriginHost, OriginRealm, RequestType, FramedIpv6Prefix, session_fields, ComponentField, ComponentStatus, FlowField, FlowDescriptions, FlowUsage, FlowStatus, FlowRateUp, FlowRateDown, Place, OfSession, OfComponent, OfFlow, OfRuleName, Removable, Component, Flow, position_cmp}
use Rattle.pcrf_values.specs.Prefixes.{Ipv6Prefix, address_bits, address_octets, first_bits}
use Rattle.pcrf_values.specs.Values.{Subscriber, Value, Number, Text, Address, Subscribers, Filters, Untold, Told, Prefix}
use Rattle.pcrf_values.specs.Facts.{Fact, End, Removed, Field, Aborted, position, is_shaded_by}
use Rattle.pcrf_model.specs.Sessions.{Kind, Gx, Af, Session}
use Rattle.pcrf_model.specs.Holdings.{SessionFact, session_fact_cmp, Holding}
use Rattle.pcrf_model.specs.Operations.{Operation}
use Rattle.pcrf_model.specs.Tables.{Class, OperatorRule, ApnRow, Apns, Tables}
use Rattle.pcrf_model.specs.Making.{user_says}
use Rattle.pcrf_model.specs.Requests.{UserValue, FlowValue, ComponentValue, RequestValue, Ccr, Aar, Str, Base}

-- ---- numbers, texts, and lists

-- from the least to the most
abbrev pub is_within : ℕ → ℕ → ℕ → Bool
is_within least most n = nat_le least n && nat_le n most

-- a number of 32 bits (Unsigned32, RFC 6733, 4.2)
abbrev pub is_unsigned : ℕ → Bool
is_unsigned n = nat_lt n (2 ^ 32)

-- a byte
abbrev pub is_byte : ℕ → Bool
is_byte n = nat_lt n (2 ^ 8)

-- a text of 1 to most bytes
abbrev pub is_text : ℕ → List ℕ → Bool
is_text most t = is_within 1 most (length t) && list_all is_byte t

-- each below all that follow
abbrev pub is_rising : {A : Type 0} → (A → A → Ordering) → List A → Bool
is_rising cmp [] = true
is_rising cmp (x ∷ xs) = list_all (λ y. is_lt (cmp x y)) xs && is_rising cmp xs

-- where there is a value, it passes
abbrev pub is_none_or : {A : Type 0} → (A → Bool) → Option A → Bool
is_none_or test x = unwrap_or (option_map test x) true

-- ---- values

-- the four octets of an IPv4 address
abbrev pub is_address : List ℕ → Bool
is_address a = length a == 4 && list_all is_byte a

-- an IPv6 prefix: up to 128 bits in 16 bytes, and zeros past them
abbrev pub is_prefix : Ipv6Prefix → Bool
is_prefix p =
    nat_le p.0 address_bits && length p.1 == address_octets && list_all is_byte p.1
    && is_eq (text_cmp (first_bits p.0 p.1) p.1)

-- the name of an access point, in small letters
abbrev pub is_apn : List ℕ → Bool
is_apn t = is_text apn_limit t && is_eq (text_cmp (small_letters t) t)

-- the host or the realm of a client
abbrev pub is_identity : List ℕ → Bool
is_identity = is_text identity_limit

-- a Subscription-Id (RFC 8506, 8.46 to 8.48)
abbrev pub is_subscriber : Subscriber → Bool
is_subscriber s = is_within 0 4 s.0 && is_text subscription_data_limit s.1

-- the subscribers of a session, ascending
abbrev pub are_subscribers : List Subscriber → Bool
are_subscribers xs = is_within 1 subscribers_limit (length xs) && list_all is_subscriber xs && is_rising subscriber_cmp xs

-- the filters of a flow
abbrev pub are_filters : List (List ℕ) → Bool
are_filters xs = is_within 1 filters_limit (length xs) && list_all (is_text filter_limit) xs

-- the Flow-Status of a flow that is not removed (TS 29.214, 5.3.11)
abbrev pub is_status : ℕ → Bool
is_status = is_within 0 3

-- Flow-Usage (TS 29.214, 5.3.12)
abbrev pub is_usage : ℕ → Bool
is_usage = is_within 0 2

-- a QCI and an ARP (TS 29.212, 5.3.17 and 5.3.45), of which the QCI is at least that
abbrev pub is_class_from : ℕ → ℕ → ℕ → ℕ → ℕ → Bool
is_class_from least qci priority capability vulnerability =
    is_within least 9 qci && is_within 1 15 priority && is_within 0 1 capability && is_within 0 1 vulnerability

-- a rule, under any name
abbrev pub is_rule : RuleValue → Bool
is_rule r =
    is_status r.status && are_filters r.filters && is_class_from 1 r.qci r.priority r.capability r.vulnerability
    && is_unsigned r.max_ul && is_unsigned r.max_dl && is_unsigned r.precedence

-- ---- facts

-- what a field of a session of that kind may say
abbrev pub fits_session_field : Kind → SessionField → Value → Bool
fits_session_field k FramedIpAddress (Address a) = is_address a
fits_session_field k FramedIpv6Prefix (Prefix p) = is_prefix p
fits_session_field k CalledStationId (Text t) = is_apn t
fits_session_field k SubscriptionIds (Subscribers xs) = are_subscribers xs
fits_session_field k OriginHost (Text t) = is_identity t
fits_session_field k OriginRealm (Text t) = is_identity t
fits_session_field Gx RequestType (Number n) = is_within 1 2 n
fits_session_field Af RequestType (Number n) = n == 0
fits_session_field k f x = false

-- what a field of a component may say
abbrev pub fits_component_field : ComponentField → Value → Bool
fits_component_field ComponentStatus (Number n) = is_status n
fits_component_field f (Number n) = is_unsigned n
fits_component_field f x = false

-- what a field of a flow may say
abbrev pub fits_flow_field : FlowField → Value → Bool
fits_flow_field FlowDescriptions (Filters xs) = are_filters xs
fits_flow_field FlowUsage (Number n) = is_usage n
fits_flow_field FlowStatus (Number n) = is_status n
fits_flow_field FlowRateUp (Number n) = is_unsigned n
fits_flow_field FlowRateDown (Number n) = is_unsigned n
fits_flow_field f x = false

-- what may be told under a rule's name: nothing, or a rule of that name
abbrev pub fits_rule_name : List ℕ → Value → Bool
fits_rule_name n Untold = true
fits_rule_name n (Told r) = is_eq (text_cmp r.name n) && is_rule r
fits_rule_name n x = false

-- what a place in a session of that kind may say: components and flows are the AF's, what was told is of the gateway
abbrev pub fits_place : Kind → Place → Value → Bool
fits_place k (OfSession f) x = fits_session_field k f x
fits_place Af (OfComponent c f) x = is_unsigned c && fits_component_field f x
fits_place Af (OfFlow c n f) x = is_unsigned c && is_unsigned n && fits_flow_field f x
fits_place Gx (OfRuleName n) x = is_text rule_name_limit n && fits_rule_name n x
fits_place k p x = false

-- what may be removed of a session of that kind
abbrev pub fits_removal : Kind → Removable → Bool
fits_removal Gx r = false
fits_removal Af (Component c) = is_unsigned c
fits_removal Af (Flow c n) = is_unsigned c && is_unsigned n

-- a fact that a session of that kind may have
abbrev pub fits : Kind → Fact → Bool
fits k End = true
fits k (Removed r) = fits_removal k r
fits k (Field p t x) = fits_place k p x
fits Gx Aborted = false
fits Af Aborted = true

-- ---- stamps and tags

-- a counter, and a site
abbrev pub is_stamp : ℕ → ℕ → Bool
is_stamp counter site = is_within 1 last_counter counter && nat_lt site site_limit

-- the number of the request that made a fact there: a gateway's requests count, and their number stands in the tags of the session's fields alone
abbrev pub number_at : Kind → Place → ℕ → ℕ
number_at Gx (OfSession f) n = n
number_at k p n = 0

-- the fact's tag is that of an operation with this stamp and number
abbrev pub is_tagged : Kind → ℕ → ℕ → ℕ → Fact → Bool
is_tagged k counter site number (Field p t x) = is_eq (tag_cmp t (record { number = number_at k p number; counter = counter; site = site }))
is_tagged k counter site number f = true

-- the fact's tag is that of some operation, with a counter up to the clock
abbrev pub is_counted : Kind → ℕ → Fact → Bool
is_counted k clock (Field p t x) = is_stamp t.counter t.site && nat_le t.counter clock && is_unsigned t.number && t.number == number_at k p t.number
is_counted k clock f = true

-- ---- operations and holdings

-- a Session-Id (RFC 6733, 8.8)
abbrev pub is_session : Session → Bool
is_session s = is_text session_id_limit s.id

-- the facts of one operation: some, each at a position of its own, ascending, and none overshadows another, so that the end stands alone
abbrev pub stand_together : List Fact → Bool
stand_together facts = nat_le 1 (length facts) && is_rising position_cmp (map position facts) && not (list_any (λ f. list_any (is_shaded_by f) facts) facts)

-- the number of a gateway's request; no other has one
abbrev pub is_request_number : Kind → ℕ → Bool
is_request_number Gx n = is_unsigned n
is_request_number Af n = n == 0

-- an operation that a site may make
abbrev pub is_operation : Operation → Bool
is_operation o =
    is_stamp o.counter o.site && is_request_number o.session.kind o.number && is_session o.session && stand_together o.facts
    && list_all (λ f. fits o.session.kind f && is_tagged o.session.kind o.counter o.site o.number f) o.facts

-- a fact of a holding with that clock
abbrev pub is_held : ℕ → SessionFact → Bool
is_held clock x = is_session x.0 && fits x.0.kind x.1 && is_counted x.0.kind clock x.1

-- a holding that such operations make
abbrev pub is_holding : Holding → Bool
is_holding h = nat_le h.clock last_counter && is_rising session_fact_cmp h.facts && list_all (is_held h.clock) h.facts

-- no tag of the facts has a greater counter than that
abbrev pub is_up_to : ℕ → Fact → Bool
is_up_to clock (Field p t x) = nat_le t.counter clock
is_up_to clock f = true

abbrev pub are_up_to : ℕ → List SessionFact → Bool
are_up_to clock = list_all (λ (x : SessionFact). is_up_to clock x.1)

-- ---- records: what is known of one session

-- the fact's tag is that of some operation, whatever its counter
abbrev pub is_numbered : Kind → Fact → Bool
is_numbered k (Field p t x) = nat_le 1 t.counter && nat_lt t.site site_limit && is_unsigned t.number && t.number == number_at k p t.number
is_numbered k f = true

-- a fact of some operation on a session of that kind
abbrev pub is_recorded : Kind → Fact → Bool
is_recorded k f = fits k f && is_numbered k f

-- facts of such operations, at least one
abbrev pub is_record : Kind → List Fact → Bool
is_record k facts = nat_le 1 (length facts) && list_all (is_recorded k) facts

-- ---- requests, as the profiles read them

-- a flow that a request describes; 4 is the Flow-Status that removes it
abbrev pub is_flow : FlowValue → Bool
is_flow f =
    is_unsigned f.number && is_none_or are_filters f.filters && is_none_or is_usage f.usage && is_none_or (is_within 0 4) f.status
    && is_none_or is_unsigned f.rate_up && is_none_or is_unsigned f.rate_down

-- the numbers differ
abbrev pub are_apart : List ℕ → Bool
are_apart [] = true
are_apart (n ∷ ns) = not (list_any (λ m. m == n) ns) && are_apart ns

-- a component that a request describes, its flows with numbers of their own
abbrev pub is_component : ComponentValue → Bool
is_component c =
    is_unsigned c.number && is_none_or is_unsigned c.media && is_none_or (is_within 0 4) c.status && is_none_or is_unsigned c.rate_up
    && is_none_or is_unsigned c.rate_down && list_all is_flow c.flows && are_apart (map (λ (f : FlowValue). f.number) c.flows)

-- what requests of both interfaces carry
abbrev pub is_origin : List ℕ → List ℕ → List ℕ → Bool
is_origin id host realm = is_text session_id_limit id && is_identity host && is_identity realm

-- what is said of a user fits each field, as far as it is said
abbrev pub is_user : Kind → UserValue → Bool
is_user k u = list_all (λ f. is_none_or (fits_session_field k f) (user_says u f)) session_fields

-- a request as it is read
abbrev pub is_request : RequestValue → Bool
is_request (Ccr q) = is_origin q.session q.host q.realm && is_user Gx q.user && is_unsigned q.number
is_request (Aar q) =
    is_origin q.session q.host q.realm && is_user Af q.user
    && list_all is_component q.components && are_apart (map (λ (c : ComponentValue). c.number) q.components)
is_request (Str q) = is_origin q.session q.host q.realm
is_request (Base q) = true

-- ---- operator tables, as they are read

-- a class of service
abbrev pub is_class : Class → Bool
is_class c = is_class_from 1 c.qci c.priority c.capability c.vulnerability && is_unsigned c.max_ul && is_unsigned c.max_dl && is_unsigned c.precedence

-- a rule of an access point
abbrev pub is_operator_rule : OperatorRule → Bool
is_operator_rule r = is_text operator_rule_name_limit r.name && is_class r.class && is_status r.status && are_filters r.filters

-- names that differ
abbrev pub are_names_apart : List (List ℕ) → Bool
are_names_apart [] = true
are_names_apart (n ∷ ns) = not (list_any (λ m. is_eq (text_cmp m n)) ns) && are_names_apart ns

-- what an access point has, its rules with names of their own
abbrev pub is_apn_row : List ℕ × ApnRow → Bool
is_apn_row r = list_all is_operator_rule r.1.rules && are_names_apart (map (λ (x : OperatorRule). x.name) r.1.rules)

-- the access points
abbrev pub are_apns : Apns → Bool
are_apns = list_all is_apn_row

-- operator tables
abbrev pub are_tables : Tables → Bool
are_tables t = is_class t.signalling && list_all (λ (r : ℕ × Class). is_class r.1) t.media && are_apns t.apns
