-- What an index no longer lists once a session is forgotten.
use Rattle.std.specs.Prelude.{◌≡◌, ℕ, Bool, true, false, Some, None, List}
use Rattle.std.specs.Net.Addr.{ipv4_octets}
use Rattle.std.specs.declared.net.ipv4_addr.Ipv4Addr.{Ipv4Addr}
use Rattle.pcrf_values.specs.Orders.{text_cmp}
use Rattle.pcrf_values.specs.Sets.{In}
use Rattle.pcrf_values.specs.Prefixes.{Ipv6Prefix}
use Rattle.pcrf_values.specs.Subscribers.{subscriber_cmp}
use Rattle.pcrf_values.specs.Facts.{Fact}
use Rattle.pcrf_values.specs.FlowWords.{value_at}
use Rattle.pcrf_values.specs.Held.{entry_shown}
use Rattle.pcrf_values.specs.Places.{Place, address, prefix, subscribers}
use Rattle.pcrf_values.specs.Values.{Subscriber, Address, Subscribers, Prefix}
use Rattle.pcrf_model.specs.Holdings.{SessionFact}
use Rattle.pcrf_model.specs.Sessions.{Session}
use Rattle.pcrf_model.specs.Views.{View, view, value}
use Rattle.bind_index.specs.Listings.{HasSubscriber, shows_asked}
use Rattle.bind_index.specs.Lists.{ids_at, without}
use Rattle.bind_index.specs.Index.{BySubscriber, IndexValue, listed_at, listed_in}
use Rattle.bind_index.specs.Networks.{network_of}

-- the session shows the address
abbrev pub ShowsAddress : View → Session → Ipv4Addr → Type 0
ShowsAddress v s a = value v s address ≡ Some (Address (ipv4_octets a))

-- the session shows a prefix of the network
abbrev pub ShowsNetwork : View → Session → Ipv6Prefix → Type 0
ShowsNetwork v s n = (p : Ipv6Prefix) × (value v s prefix ≡ Some (Prefix p)) × (network_of p ≡ n)

-- the session shows nothing
abbrev pub ShowsNothing : View → Session → Type 0
ShowsNothing v s = (p : Place) → value v s p ≡ None

-- an ended session shows nothing
abbrev pub EndedShowNothing : Type 0
EndedShowNothing = (facts : List SessionFact) (s : Session) → (view facts).ended s ≡ true → ShowsNothing (view facts) s

-- these facts of a session show the address
abbrev pub GivesAddress : List Fact → Ipv4Addr → Type 0
GivesAddress facts a = value_at (entry_shown facts) address ≡ Some (Address (ipv4_octets a))

-- the session is taken out from under the address that these facts show, and from under no other
pub record ForgetsAddress (before after : IndexValue) (s : Session) (facts : List Fact) : Type 0 where
  pub gone : (a : Ipv4Addr) → GivesAddress facts a → listed_at after s.kind a ≡ without text_cmp s.id (listed_at before s.kind a)
  pub others : (a : Ipv4Addr) → ¬ GivesAddress facts a → listed_at after s.kind a ≡ listed_at before s.kind a

-- these facts of a session show a prefix of the network
abbrev pub GivesNetwork : List Fact → Ipv6Prefix → Type 0
GivesNetwork facts n = (p : Ipv6Prefix) × (value_at (entry_shown facts) prefix ≡ Some (Prefix p)) × (network_of p ≡ n)

-- the session is taken out from under the network of the prefix that these facts show, and from under no other
pub record ForgetsNetwork (before after : IndexValue) (s : Session) (facts : List Fact) : Type 0 where
  pub gone : (n : Ipv6Prefix) → GivesNetwork facts n → listed_in after s.kind n ≡ without text_cmp s.id (listed_in before s.kind n)
  pub others : (n : Ipv6Prefix) → ¬ GivesNetwork facts n → listed_in after s.kind n ≡ listed_in before s.kind n

-- the session is taken out from under these subscribers, and from under no others
pub record ForgetsEach (before after : BySubscriber) (id : List ℕ) (xs : List Subscriber) : Type 0 where
  pub gone : (x : Subscriber) → In x xs → ids_at subscriber_cmp after x ≡ without text_cmp id (ids_at subscriber_cmp before x)
  pub others : (x : Subscriber) → ¬ In x xs → ids_at subscriber_cmp after x ≡ ids_at subscriber_cmp before x

-- these facts of a session show the subscriber among its own
abbrev pub GivesSubscriber : List Fact → Subscriber → Type 0
GivesSubscriber facts x = (xs : List Subscriber) × (value_at (entry_shown facts) subscribers ≡ Some (Subscribers xs)) × In x xs

-- the session is taken out from under the subscribers that these facts show, and from under no others
pub record ForgetsSubscribers (before after : BySubscriber) (id : List ℕ) (facts : List Fact) : Type 0 where
  pub gone : (x : Subscriber) → GivesSubscriber facts x → ids_at subscriber_cmp after x ≡ without text_cmp id (ids_at subscriber_cmp before x)
  pub others : (x : Subscriber) → ¬ GivesSubscriber facts x → ids_at subscriber_cmp after x ≡ ids_at subscriber_cmp before x

-- these facts of a session show the subscriber among its own
abbrev pub shows_subscriber : List Fact → Subscriber → Bool
shows_subscriber facts x = shows_asked (HasSubscriber x) (entry_shown facts)

-- the session is taken out from under those of these subscribers that the facts don't show, and from under no others
pub record ForgetsUnshown (before after : BySubscriber) (id : List ℕ) (xs : List Subscriber) (facts : List Fact) : Type 0 where
  pub gone : (x : Subscriber) → In x xs → shows_subscriber facts x ≡ false → ids_at subscriber_cmp after x ≡ without text_cmp id (ids_at subscriber_cmp before x)
  pub shown : (x : Subscriber) → shows_subscriber facts x ≡ true → ids_at subscriber_cmp after x ≡ ids_at subscriber_cmp before x
  pub others : (x : Subscriber) → ¬ In x xs → ids_at subscriber_cmp after x ≡ ids_at subscriber_cmp before x

-- sessions stay listed under networks, and no others are
pub record SamePrefixed (before after : IndexValue) : Type 0 where
  pub gateways : after.gateway_networks ≡ before.gateway_networks
  pub calls : after.call_networks ≡ before.call_networks

-- sessions stay listed under addresses and subscribers, and no others are
pub record SameKeyed (before after : IndexValue) : Type 0 where
  pub gateways : after.gateways ≡ before.gateways
  pub calls : after.calls ≡ before.calls
  pub subscribed : after.subscribed ≡ before.subscribed
