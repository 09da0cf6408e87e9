-- When two records of a gateway's session show alike, so that rules and bindings by the one are those by the other; and when a new one brings nothing.
use Rattle.std.specs.Prelude.{◌≡◌, true, List, map, Some}
use Rattle.pcrf_values.specs.Sets.{Distinct}
use Rattle.pcrf_values.specs.declared.tag.Tag.{Tag}
use Rattle.pcrf_values.specs.Facts.{Fact, Field}
use Rattle.pcrf_values.specs.FlowWords.{value_at}
use Rattle.pcrf_values.specs.Held.{entry_shown}
use Rattle.pcrf_values.specs.Live.{Shows, gx_is_live}
use Rattle.pcrf_values.specs.Places.{SessionField, FramedIpAddress, CalledStationId, SubscriptionIds, OriginHost, OriginRealm, RequestType, FramedIpv6Prefix, OfSession, address, prefix, apn, subscribers}
use Rattle.pcrf_values.specs.ToldWords.{told_rules}
use Rattle.pcrf_values.specs.Values.{Value}
use Rattle.pcrf_model.specs.Differences.{difference, is_empty, rule_name_of}
use Rattle.pcrf_model.specs.Holdings.{Holding, facts_on}
use Rattle.pcrf_model.specs.Rules.{rules}
use Rattle.pcrf_model.specs.Sessions.{Session}
use Rattle.pcrf_model.specs.Tables.{Tables}
use Rattle.pcrf_model.specs.Views.{view}

-- a value under its tag
abbrev pub tagged : {A : Type 0} → Tag → A → Tag × A
tagged t x = (t, x)

-- the session is live by both or by neither, and they show the same address and the same prefix under the same tags, the same access point and
-- the same subscribers
pub record ShowAlike (before after : List Fact) : Type 0 where
  pub lives : gx_is_live before ≡ gx_is_live after
  pub at_address : entry_shown before address ≡ entry_shown after address
  pub at_prefix : entry_shown before prefix ≡ entry_shown after prefix
  pub at_apn : value_at (entry_shown before) apn ≡ value_at (entry_shown after) apn
  pub of_subscribers : value_at (entry_shown before) subscribers ≡ value_at (entry_shown after) subscribers

-- a record of the session shows alike what is held of it, no two rules of the session have one name, and by the record its gateway was told just these
pub record BringsNothing (t : Tables) (h : Holding) (s : Session) (known : List Fact) : Type 0 where
  pub alike : ShowAlike (facts_on h.facts s) known
  pub apart : Distinct (map rule_name_of (rules t (view h.facts) s))
  pub told : is_empty (difference (told_rules known) (rules t (view h.facts) s)) ≡ true

-- the value of a session's field changes nothing of what rules and bindings read where this shows: of where the user is reached nothing is said, and of the
-- access point and of the subscribers what shows
abbrev pub stays : Shows → SessionField → Value → Type 0
stays shows FramedIpAddress x = ⊥
stays shows CalledStationId x = value_at shows apn ≡ Some x
stays shows SubscriptionIds x = value_at shows subscribers ≡ Some x
stays shows OriginHost x = Unit {0}
stays shows OriginRealm x = Unit {0}
stays shows RequestType x = Unit {0}
stays shows FramedIpv6Prefix x = ⊥

-- the fact is a field of which this holds beside what these facts show
abbrev pub Refreshes : List Fact → Fact → Type 0
Refreshes own (Field (OfSession f) t x) = stays (entry_shown own) f x
Refreshes own f = ⊥
