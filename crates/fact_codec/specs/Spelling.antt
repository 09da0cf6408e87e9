-- The one spelling of what facts say, in bytes (this project's profile).
use Rattle.std.specs.Prelude.{ℕ, List, [], ◌∷◌, ◌++◌, length, take}
use Rattle.std.specs.List.{flat_map}
use Rattle.std.specs.Int.{w16, w32, w64, to_be_bytes}
use Rattle.pcrf_values.specs.declared.tag.Tag.{Tag}
use Rattle.pcrf_values.specs.Prefixes.{Ipv6Prefix, octets_for}
use Rattle.pcrf_values.specs.RuleValues.{RuleValue}
use Rattle.pcrf_values.specs.Places.{session_field_number, component_field_number, flow_field_number, Place, OfSession, OfComponent, OfFlow, OfRuleName, Removable, Component, Flow}
use Rattle.pcrf_values.specs.Values.{Subscriber, Value, Number, Text, Address, Subscribers, Filters, Untold, Told, Prefix}
use Rattle.pcrf_values.specs.Facts.{Fact, End, Removed, Field, Aborted}

-- ---- numbers and texts

-- a number as two, four and eight bytes, big-endian
unfoldable pub short_bytes : ℕ → List ℕ
short_bytes n = to_be_bytes w16 n

unfoldable pub word_bytes : ℕ → List ℕ
word_bytes n = to_be_bytes w32 n

unfoldable pub long_bytes : ℕ → List ℕ
long_bytes n = to_be_bytes w64 n

-- a text: how many bytes it has, and these
abbrev pub text_bytes : List ℕ → List ℕ
text_bytes t = short_bytes (length t) ++ t

-- ---- what facts say

-- a subscriber: the type and the name
abbrev pub subscriber_bytes : Subscriber → List ℕ
subscriber_bytes s = s.0 ∷ [] ++ text_bytes s.1

-- the filters of a flow: how many they are, and these
abbrev pub filters_bytes : List (List ℕ) → List ℕ
filters_bytes fs = length fs ∷ [] ++ flat_map text_bytes fs

-- a class of service: QCI, priority level, pre-emption capability and vulnerability, rates up and down
abbrev pub class_bytes : RuleValue → List ℕ
class_bytes r = r.qci ∷ r.priority ∷ r.capability ∷ r.vulnerability ∷ [] ++ word_bytes r.max_ul ++ word_bytes r.max_dl

-- a rule without its name, under which it stands
unfoldable pub rule_bytes : RuleValue → List ℕ
rule_bytes r = r.status ∷ [] ++ filters_bytes r.filters ++ class_bytes r ++ word_bytes r.precedence

-- an IPv6 prefix: its length, and the bytes that its bits need
abbrev pub prefix_bytes : Ipv6Prefix → List ℕ
prefix_bytes p = p.0 ∷ [] ++ take (octets_for p.0) p.1

-- a value; an address with the number of its octets, and what was told with whether it is a rule
unfoldable pub value_bytes : Value → List ℕ
value_bytes (Number n) = word_bytes n
value_bytes (Text t) = text_bytes t
value_bytes (Address a) = length a ∷ [] ++ a
value_bytes (Subscribers ss) = short_bytes (length ss) ++ flat_map subscriber_bytes ss
value_bytes (Filters fs) = filters_bytes fs
value_bytes Untold = 0 ∷ []
value_bytes (Told r) = 1 ∷ [] ++ rule_bytes r
value_bytes (Prefix p) = prefix_bytes p

-- ---- facts

-- the kind of a fact, and of what it is a fact
abbrev pub place_bytes : Place → List ℕ
place_bytes (OfSession f) = 2 ∷ session_field_number f ∷ []
place_bytes (OfComponent c f) = 5 ∷ [] ++ word_bytes c ++ component_field_number f ∷ []
place_bytes (OfFlow c n f) = 6 ∷ [] ++ word_bytes c ++ word_bytes n ++ flow_field_number f ∷ []
place_bytes (OfRuleName t) = 7 ∷ [] ++ text_bytes t

-- what is removed
abbrev pub removable_bytes : Removable → List ℕ
removable_bytes (Component c) = 3 ∷ [] ++ word_bytes c
removable_bytes (Flow c n) = 4 ∷ [] ++ word_bytes c ++ word_bytes n

-- a fact of an operation, whose stamp and number give its tag
unfoldable pub fact_bytes : Fact → List ℕ
fact_bytes End = 1 ∷ []
fact_bytes (Removed r) = removable_bytes r
fact_bytes (Field p t x) = place_bytes p ++ value_bytes x
fact_bytes Aborted = 8 ∷ []

-- facts: how many they are, and these
unfoldable pub facts_bytes : List Fact → List ℕ
facts_bytes fs = word_bytes (length fs) ++ flat_map fact_bytes fs

-- ---- facts as states hold them: each value with its own tag

-- a tag: the number of the request, the counter and the site
unfoldable pub tag_bytes : Tag → List ℕ
tag_bytes t = word_bytes t.number ++ long_bytes t.counter ++ t.site ∷ []

-- a fact; behind a value its tag
unfoldable pub held_fact_bytes : Fact → List ℕ
held_fact_bytes (Field p t x) = fact_bytes (Field p t x) ++ tag_bytes t
held_fact_bytes f = fact_bytes f

-- facts: how many they are, and these
unfoldable pub held_facts_bytes : List Fact → List ℕ
held_facts_bytes fs = word_bytes (length fs) ++ flat_map held_fact_bytes fs
