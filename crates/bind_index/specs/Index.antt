-- Which sessions an index lists, and when that is enough to find every binding.
use Rattle.std.specs.Prelude.{◌≡◌, ◌⊎◌, ℕ, List, [], Option, Some, None}
use Rattle.std.specs.List.{filter_map}
use Rattle.std.specs.declared.cmp.Ordering.{Ordering}
use Rattle.std.specs.declared.net.ipv4_addr.Ipv4Addr.{Ipv4Addr}
use Rattle.std.specs.Net.Addr.{ipv4_octets}
use Rattle.pcrf_values.specs.Orders.{text_cmp}
use Rattle.pcrf_values.specs.Sets.{In, greatest}
use Rattle.pcrf_values.specs.declared.tag.Tag.{Tag}
use Rattle.pcrf_values.specs.Prefixes.{Ipv6Prefix, prefix_cmp}
use Rattle.pcrf_values.specs.Subscribers.{subscriber_cmp}
use Rattle.pcrf_values.specs.Facts.{Fact, Field}
use Rattle.pcrf_values.specs.FlowWords.{value_at}
use Rattle.pcrf_values.specs.Held.{entry_shown}
use Rattle.pcrf_values.specs.Places.{address, prefix, subscribers}
use Rattle.pcrf_values.specs.Values.{Value, Subscriber, Address, Subscribers, Prefix}
use Rattle.pcrf_model.specs.Bindings.{Candidate, candidate_cmp}
use Rattle.pcrf_model.specs.Holdings.{SessionFact, facts_on, Holding, union, kept_of}
use Rattle.pcrf_model.specs.Operations.{Operation, with_operation}
use Rattle.pcrf_model.specs.Sessions.{Kind, Gx, Af, Session, gx, af}
use Rattle.pcrf_model.specs.Views.{View, view, value}
use Rattle.site_join.specs.States.{Records}
use Rattle.bind_index.specs.Beside.{beside}
use Rattle.bind_index.specs.Listings.{Question, listed}
use Rattle.bind_index.specs.Matches.{match_of}
use Rattle.bind_index.specs.Lists.{ids_at}
use Rattle.bind_index.specs.Networks.{all_networks, network_of}

-- addresses by their octets
abbrev pub address_cmp : Ipv4Addr → Ipv4Addr → Ordering
address_cmp x y = text_cmp (ipv4_octets x) (ipv4_octets y)

-- Session-Ids by address
abbrev pub ByAddress : Type 0
ByAddress = List (Ipv4Addr × List (List ℕ))

-- Session-Ids by subscriber
abbrev pub BySubscriber : Type 0
BySubscriber = List (Subscriber × List (List ℕ))

-- Session-Ids by network
abbrev pub ByNetwork : Type 0
ByNetwork = List (Ipv6Prefix × List (List ℕ))

-- gateways' sessions and calls by address, gateways' sessions by subscriber, and both by the networks of their prefixes
pub record IndexValue : Type 0 where
  pub gateways : ByAddress
  pub calls : ByAddress
  pub subscribed : BySubscriber
  pub gateway_networks : ByNetwork
  pub call_networks : ByNetwork

-- the sessions of one kind that are listed under an address
abbrev pub listed_at : IndexValue → Kind → Ipv4Addr → List (List ℕ)
listed_at i Gx a = ids_at address_cmp i.gateways a
listed_at i Af a = ids_at address_cmp i.calls a

-- the gateways' sessions that are listed under a subscriber
abbrev pub listed_of : IndexValue → Subscriber → List (List ℕ)
listed_of i x = ids_at subscriber_cmp i.subscribed x

-- the sessions of one kind that are listed under a network
abbrev pub listed_in : IndexValue → Kind → Ipv6Prefix → List (List ℕ)
listed_in i Gx n = ids_at prefix_cmp i.gateway_networks n
listed_in i Af n = ids_at prefix_cmp i.call_networks n

-- each session that shows an address is listed under it, each that shows a prefix under its network, and each Gx session that shows
-- subscribers under each of them
pub record Covers (v : View) (i : IndexValue) : Type 0 where
  pub addresses : (s : Session) (a : Ipv4Addr) → value v s address ≡ Some (Address (ipv4_octets a)) → In s.id (listed_at i s.kind a)
  pub prefixes : (s : Session) (p : Ipv6Prefix) → value v s prefix ≡ Some (Prefix p) → In s.id (listed_in i s.kind (network_of p))
  pub subscribed : (id : List ℕ) (xs : List Subscriber) (x : Subscriber) → value v (gx id) subscribers ≡ Some (Subscribers xs) → In x xs → In id (listed_of i x)

-- nothing is unlisted
pub record Grows (before after : IndexValue) : Type 0 where
  pub addresses : (k : Kind) (a : Ipv4Addr) (id : List ℕ) → In id (listed_at before k a) → In id (listed_at after k a)
  pub prefixes : (k : Kind) (n : Ipv6Prefix) (id : List ℕ) → In id (listed_in before k n) → In id (listed_in after k n)
  pub subscribed : (x : Subscriber) (id : List ℕ) → In id (listed_of before x) → In id (listed_of after x)

-- nothing is unlisted
pub record GrowsUnder (before after : BySubscriber) : Type 0 where
  pub each : (x : Subscriber) (id : List ℕ) → In id (ids_at subscriber_cmp before x) → In id (ids_at subscriber_cmp after x)

-- the session is listed under each of the subscribers
pub record ListedUnder (lists : BySubscriber) (id : List ℕ) (xs : List Subscriber) : Type 0 where
  pub each : (x : Subscriber) → In x xs → In id (ids_at subscriber_cmp lists x)

-- the session is listed under each address that these facts give it, under the network of each prefix, and if it is of a gateway under each
-- subscriber
pub record ListsFacts (i : IndexValue) (s : Session) (facts : List Fact) : Type 0 where
  pub addresses : (t : Tag) (a : Ipv4Addr) → In (Field address t (Address (ipv4_octets a))) facts → In s.id (listed_at i s.kind a)
  pub prefixes : (t : Tag) (p : Ipv6Prefix) → In (Field prefix t (Prefix p)) facts → In s.id (listed_in i s.kind (network_of p))
  pub subscribed : (id : List ℕ) → s ≡ gx id → (t : Tag) (xs : List Subscriber) → In (Field subscribers t (Subscribers xs)) facts → ListedUnder i.subscribed id xs

-- the session is listed under the address that these facts show
pub record ListsAddress (i : IndexValue) (s : Session) (facts : List Fact) : Type 0 where
  pub listed : (a : Ipv4Addr) → value_at (entry_shown facts) address ≡ Some (Address (ipv4_octets a)) → In s.id (listed_at i s.kind a)

-- the session is listed under the network of the prefix that these facts show
pub record ListsPrefix (i : IndexValue) (s : Session) (facts : List Fact) : Type 0 where
  pub listed : (p : Ipv6Prefix) → value_at (entry_shown facts) prefix ≡ Some (Prefix p) → In s.id (listed_in i s.kind (network_of p))

-- the Gx session is listed under each subscriber that these facts show
pub record ListsSubscribers (i : IndexValue) (id : List ℕ) (facts : List Fact) : Type 0 where
  pub listed : (xs : List Subscriber) → value_at (entry_shown facts) subscribers ≡ Some (Subscribers xs) → ListedUnder i.subscribed id xs

-- the Gx session is listed by all that these facts show
pub record ListsGateway (i : IndexValue) (id : List ℕ) (facts : List Fact) : Type 0 where
  pub address : ListsAddress i (gx id) facts
  pub prefix : ListsPrefix i (gx id) facts
  pub subscribers : ListsSubscribers i id facts

-- and the AF session
pub record ListsCall (i : IndexValue) (id : List ℕ) (facts : List Fact) : Type 0 where
  pub address : ListsAddress i (af id) facts
  pub prefix : ListsPrefix i (af id) facts

-- the session of each of these records is so listed
pub record ListEach (Lists : IndexValue → List ℕ → List Fact → Type 0) (i : IndexValue) (es : Records) : Type 0 where
  pub each : (e : List ℕ × List Fact) → In e es → Lists i e.0 e.1

-- The Gx sessions among which an AF session of these facts finds its own: those under its address, or where it shows a prefix alone those under
-- its network, and those that span networks (TS 29.213, 5.2).
pub record AreAskedFor (i : IndexValue) (asking : List Fact) (ids : List (List ℕ)) : Type 0 where
  pub by_address : (x : Value) → value_at (entry_shown asking) address ≡ Some x → (a : Ipv4Addr) × (x ≡ Address (ipv4_octets a)) × (ids ≡ listed_at i Gx a)
  pub by_prefix : (p : Ipv6Prefix) → value_at (entry_shown asking) address ≡ None → value_at (entry_shown asking) prefix ≡ Some (Prefix p)
      → (id : List ℕ) → In id (listed_in i Gx all_networks) ⊎ In id (listed_in i Gx (network_of p)) → In id ids

-- the matches of an AF session among these Gx sessions
abbrev pub matches_listed : List Fact → List SessionFact → List (List ℕ) → List Candidate
matches_listed asking facts = filter_map (λ (id : List ℕ). match_of asking id (facts_on facts (gx id)))

-- what was found is the greatest of the matches among those that are listed under a network and those that span networks
pub record IsFoundIn (i : IndexValue) (n : Ipv6Prefix) (asking : List Fact) (facts : List SessionFact) (found : Option Candidate) : Type 0 where
  pub ids : List (List ℕ)
  pub has : (id : List ℕ) → In id (listed_in i Gx all_networks) ⊎ In id (listed_in i Gx n) → In id ids
  pub is : found ≡ greatest candidate_cmp (matches_listed asking facts ids)

-- what was found is the greatest of the matches among those that an AF session of these facts is asked for
pub record IsFoundFor (i : IndexValue) (asking : List Fact) (facts : List SessionFact) (found : Option Candidate) : Type 0 where
  pub ids : List (List ℕ)
  pub are : AreAskedFor i asking ids
  pub is : found ≡ greatest candidate_cmp (matches_listed asking facts ids)

-- those of these Gx sessions that are live and show what is asked
abbrev pub asked_among : Question → List SessionFact → List (List ℕ) → List (List ℕ)
asked_among q facts = filter_map (λ (id : List ℕ). listed (beside (facts_on facts (gx id)) []) q (gx id))

-- ---- what an index covers after more was taken

-- with an operation, where it lists the operation's session
abbrev pub CoversWithMore : Type 0
CoversWithMore = (h : Holding) (o : Operation) (i j : IndexValue) → Covers (view h.facts) i → Grows i j → ListsFacts j o.session o.facts → Covers (view (kept_of (with_operation h o)).facts) j

-- with another holding, where it covers both
abbrev pub CoversUnions : Type 0
CoversUnions = (h k : Holding) (i : IndexValue) → Covers (view h.facts) i → Covers (view k.facts) i → Covers (view (kept_of (union h k)).facts) i
