-- Readers of what facts say, and of facts: the rows of fields with the kind of value of each.
use Rattle.std.specs.Prelude.{ℕ, Bool, true, ◌&&◌, ◌==◌, nat_le, List, take, if◌then◌else◌}
use Rattle.std.specs.Ordering.{is_eq}
use Rattle.pcrf_values.specs.Orders.{text_cmp}
use Rattle.pcrf_values.specs.declared.tag.Tag.{Tag}
use Rattle.pcrf_values.specs.Limits.{identity_limit, apn_limit, subscription_data_limit, subscribers_limit, filters_limit, filter_limit, rule_name_limit}
use Rattle.pcrf_values.specs.Numbers.{number_within}
use Rattle.pcrf_values.specs.Prefixes.{Ipv6Prefix, octets_for, prefix_from}
use Rattle.pcrf_values.specs.RuleValues.{RuleValue}
use Rattle.pcrf_values.specs.Subscribers.{subscriber_cmp}
use Rattle.pcrf_values.specs.Texts.{one_to, small_letters}
use Rattle.pcrf_values.specs.Places.{SessionField, FramedIpAddress, CalledStationId, SubscriptionIds, OriginHost, OriginRealm, RequestType, FramedIpv6Prefix, session_fields, ComponentField, MediaType, ComponentStatus, ComponentRateUp, ComponentRateDown, FlowField, FlowDescriptions, FlowUsage, FlowStatus, FlowRateUp, FlowRateDown, session_field_number, component_field_number, flow_field_number, OfSession, OfComponent, OfFlow, OfRuleName, Component, Flow}
use Rattle.pcrf_values.specs.Values.{Subscriber, Value, Number, Text, Address, Subscribers, Filters, Untold, Told, Prefix}
use Rattle.pcrf_values.specs.Facts.{Fact, End, Removed, Field, Aborted}
use Rattle.pcrf_model.specs.Forms.{is_rising}
use Rattle.af_records.specs.RecordFacts.{component_fields, flow_fields}
use Rattle.fact_codec.specs.Reading.{Reader, ◌>>=◌, give, refuse, given, many, row_with, byte, short, word, long, exactly}

-- ---- what the versions of letters have

-- the first that has prefixes, and the first that has aborts, which is the one that is written
abbrev pub first_with_prefixes : ℕ
first_with_prefixes = 2

abbrev pub first_with_aborts : ℕ
first_with_aborts = 3

-- letters of version v have that field of sessions
abbrev pub has_field : ℕ → SessionField → Bool
has_field v FramedIpv6Prefix = nat_le first_with_prefixes v
has_field v f = true

-- and that fact
abbrev pub has_fact : ℕ → Fact → Bool
has_fact v (Field (OfSession f) t x) = has_field v f
has_fact v Aborted = nat_le first_with_aborts v
has_fact v f = true

-- ---- numbers and texts in their ranges

-- a byte from the least to the most
unfoldable pub byte_within : ℕ → ℕ → Reader ℕ
byte_within least most = do
  n ← byte
  given (number_within least most n)

-- four bytes, from the least to the most
unfoldable pub word_within : ℕ → ℕ → Reader ℕ
word_within least most = do
  n ← word
  given (number_within least most n)

-- a text of 1 byte to the most
unfoldable pub text : ℕ → Reader (List ℕ)
text most = do
  n ← short
  t ← exactly n
  given (one_to most t)

-- the value, where it passes
abbrev pub passed : {A : Type 0} → Bool → A → Reader A
passed b x = if b then give x else refuse

-- ---- values

-- the name of an access point, in small letters
unfoldable pub apn_name : Reader (List ℕ)
apn_name = do
  n ← short
  t ← exactly n
  small ← given (one_to apn_limit (small_letters t))
  passed (is_eq (text_cmp small t)) small

-- an IPv4 address
unfoldable pub octets : Reader (List ℕ)
octets = do
  n ← byte
  a ← passed (n == 4) 4
  exactly a

-- an IPv6 prefix: its length, and the bytes that its bits need, with zeros past them
unfoldable pub prefix : Reader Ipv6Prefix
prefix = do
  n ← byte
  bs ← exactly (octets_for n)
  p ← given (prefix_from n bs)
  passed (is_eq (text_cmp (take (octets_for p.0) p.1) bs)) p

-- a subscriber
unfoldable pub subscriber : Reader Subscriber
subscriber = do
  kind ← byte_within 0 4
  name ← text subscription_data_limit
  give (kind, name)

-- subscribers, strictly ascending
unfoldable pub subscribers : Reader (List Subscriber)
subscribers = do
  n ← short
  ss ← many subscriber n
  rising ← passed (is_rising subscriber_cmp ss) ss
  given (one_to subscribers_limit rising)

-- the filters of a flow
unfoldable pub filters : Reader (List (List ℕ))
filters = do
  n ← byte
  fs ← many (text filter_limit) n
  given (one_to filters_limit fs)

-- the rule of that name
unfoldable pub rule : List ℕ → Reader RuleValue
rule name = do
  status ← byte_within 0 3
  fs ← filters
  qci ← byte_within 1 9
  priority ← byte_within 1 15
  capability ← byte_within 0 1
  vulnerability ← byte_within 0 1
  max_ul ← word
  max_dl ← word
  precedence ← word
  give (record {
    name = name;
    status = status;
    filters = fs;
    qci = qci;
    priority = priority;
    capability = capability;
    vulnerability = vulnerability;
    max_ul = max_ul;
    max_dl = max_dl;
    precedence = precedence;
  })

-- ---- fields

-- what a field of a session says; of the type of the last request, from the least to the most
abbrev pub session_value : ℕ → ℕ → SessionField → Reader Value
session_value least most FramedIpAddress = do
  a ← octets
  give (Address a)
session_value least most CalledStationId = do
  t ← apn_name
  give (Text t)
session_value least most SubscriptionIds = do
  ss ← subscribers
  give (Subscribers ss)
session_value least most OriginHost = do
  t ← text identity_limit
  give (Text t)
session_value least most OriginRealm = do
  t ← text identity_limit
  give (Text t)
session_value least most RequestType = do
  n ← word_within least most
  give (Number n)
session_value least most FramedIpv6Prefix = do
  p ← prefix
  give (Prefix p)

-- of a component
abbrev pub component_value : ComponentField → Reader Value
component_value MediaType = do
  n ← word
  give (Number n)
component_value ComponentStatus = do
  n ← word_within 0 3
  give (Number n)
component_value ComponentRateUp = do
  n ← word
  give (Number n)
component_value ComponentRateDown = do
  n ← word
  give (Number n)

-- of a flow
abbrev pub flow_value : FlowField → Reader Value
flow_value FlowDescriptions = do
  fs ← filters
  give (Filters fs)
flow_value FlowUsage = do
  n ← word_within 0 2
  give (Number n)
flow_value FlowStatus = do
  n ← word_within 0 3
  give (Number n)
flow_value FlowRateUp = do
  n ← word
  give (Number n)
flow_value FlowRateDown = do
  n ← word
  give (Number n)

-- a field by its number, in a letter of version v, and what it says
unfoldable pub session_said : ℕ → ℕ → ℕ → Reader (SessionField × Value)
session_said v least most = do
  n ← byte
  row ← given (row_with session_field_number session_fields n)
  f ← passed (has_field v row) row
  x ← session_value least most f
  give (f, x)

unfoldable pub component_said : Reader (ComponentField × Value)
component_said = do
  n ← byte
  f ← given (row_with component_field_number component_fields n)
  x ← component_value f
  give (f, x)

unfoldable pub flow_said : Reader (FlowField × Value)
flow_said = do
  n ← byte
  f ← given (row_with flow_field_number flow_fields n)
  x ← flow_value f
  give (f, x)

-- a rule that was told
abbrev pub told_rule : List ℕ → Reader Value
told_rule name = do
  r ← rule name
  give (Told r)

-- what was told under that name: nothing, or a rule
unfoldable pub told_value : List ℕ → Reader Value
told_value name = do
  n ← byte
  if n == 0 then give Untold else if n == 1 then told_rule name else refuse

-- a name, and what was told under it
unfoldable pub told_said : Reader (List ℕ × Value)
told_said = do
  name ← text rule_name_limit
  x ← told_value name
  give (name, x)

-- ---- facts

-- a field of a session, under that tag
abbrev pub session_field : ℕ → ℕ → ℕ → Tag → Reader Fact
session_field v least most tag = do
  x ← session_said v least most
  give (Field (OfSession x.0) tag x.1)

-- what was told of a rule
abbrev pub told_field : Tag → Reader Fact
told_field tag = do
  x ← told_said
  give (Field (OfRuleName x.0) tag x.1)

-- a component removed, and a flow
abbrev pub component_removed : Reader Fact
component_removed = do
  c ← word
  give (Removed (Component c))

abbrev pub flow_removed : Reader Fact
flow_removed = do
  c ← word
  n ← word
  give (Removed (Flow c n))

-- a field of a component, and of a flow
abbrev pub component_fact : Tag → Reader Fact
component_fact tag = do
  c ← word
  x ← component_said
  give (Field (OfComponent c x.0) tag x.1)

abbrev pub flow_fact : Tag → Reader Fact
flow_fact tag = do
  c ← word
  n ← word
  x ← flow_said
  give (Field (OfFlow c n x.0) tag x.1)

-- the tag of a fact of an operation with that stamp, made by the request of that number
abbrev pub tag_of_stamp : ℕ → ℕ → ℕ → Tag
tag_of_stamp number counter site = record { number = number; counter = counter; site = site }

-- a fact of that kind of a gateway's session, in a letter of version v
abbrev pub gx_fact_of : ℕ → Tag → Tag → ℕ → Reader Fact
gx_fact_of v field_tag told_tag code =
    if code == 1 then give End else
    if code == 2 then session_field v 1 2 field_tag else
    if code == 7 then told_field told_tag else refuse

-- a fact of a gateway's session: of its fields under the first tag, of what was told under the second
unfoldable pub gx_fact : ℕ → Tag → Tag → Reader Fact
gx_fact v field_tag told_tag = do
  code ← byte
  gx_fact_of v field_tag told_tag code

-- a fact of that kind of an application function's session
abbrev pub af_fact_of : ℕ → Tag → ℕ → Reader Fact
af_fact_of v tag code =
    if code == 1 then give End else
    if code == 2 then session_field v 0 0 tag else
    if code == 3 then component_removed else
    if code == 4 then flow_removed else
    if code == 5 then component_fact tag else
    if code == 6 then flow_fact tag else
    if code == 8 then passed (has_fact v Aborted) Aborted else refuse

-- a fact of an application function's session, under that tag
unfoldable pub af_fact : ℕ → Tag → Reader Fact
af_fact v tag = do
  code ← byte
  af_fact_of v tag code

-- facts, as many as the number before them says
unfoldable pub facts : Reader Fact → Reader (List Fact)
facts fact = do
  n ← word
  many fact n

-- ---- facts as states hold them: each value with its own tag

-- a tag: the number of the request, the counter and the site
unfoldable pub tag : Reader Tag
tag = do
  number ← word
  counter ← long
  site ← byte
  give (tag_of_stamp number counter site)

-- the tag of a fact whose own follows it
abbrev pub untagged : Tag
untagged = tag_of_stamp 0 0 0

-- the fact under its own tag, which follows a value
abbrev pub with_tag : Fact → Reader Fact
with_tag (Field p t x) = do
  own ← tag
  give (Field p own x)
with_tag f = give f

-- a fact of a gateway's session
unfoldable pub held_gx_fact : ℕ → Reader Fact
held_gx_fact v = do
  f ← gx_fact v untagged untagged
  with_tag f

-- and of an application function's session
unfoldable pub held_af_fact : ℕ → Reader Fact
held_af_fact v = do
  f ← af_fact v untagged
  with_tag f
