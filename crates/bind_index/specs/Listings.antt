-- The live Gx sessions that have an address, a prefix that covers one, or a subscriber.
use Rattle.std.specs.Prelude.{ℕ, Bool, ◌&&◌, if◌then◌else◌, List, [], ◌∷◌, Option, Some, None}
use Rattle.std.specs.List.{filter_map}
use Rattle.std.specs.Net.Addr.{ipv4_octets}
use Rattle.pcrf_values.specs.Prefixes.{Ipv6Prefix}
use Rattle.pcrf_values.specs.Facts.{Fact}
use Rattle.pcrf_values.specs.FlowWords.{value_at}
use Rattle.pcrf_values.specs.Live.{Shows}
use Rattle.pcrf_values.specs.Places.{address, prefix, subscribers}
use Rattle.pcrf_values.specs.Values.{Address, Subscriber, Subscribers, Prefix}
use Rattle.pcrf_model.specs.Bindings.{agrees, is_covered, meets}
use Rattle.pcrf_model.specs.Live.{is_live}
use Rattle.pcrf_model.specs.Sessions.{Session, gx, is_gx}
use Rattle.pcrf_model.specs.Views.{View}
use Rattle.bind_index.specs.Beside.{beside}
use Rattle.bind_index.specs.declared.listing.Asked.{Asked}
use Rattle.bind_index.specs.declared.listing.Asked.TheVariants as on

-- what a session is asked to have
pub data Question : Type 0 where
  HasAddress : List ℕ → Question
  Covers : Ipv6Prefix → Question
  HasSubscriber : Subscriber → Question

-- it shows what is asked
abbrev pub shows_asked : Question → Shows → Bool
shows_asked (HasAddress a) shows = agrees (Some (Address a)) (value_at shows address)
shows_asked (Covers p) shows = is_covered (Some (Prefix p)) (value_at shows prefix)
shows_asked (HasSubscriber x) shows = meets (Some (Subscribers (x ∷ []))) (value_at shows subscribers)

-- the Session-Id of a live Gx session that shows what is asked
abbrev pub listed : View → Question → Session → Option (List ℕ)
listed v q s = if is_gx s.kind && is_live v s && shows_asked q (v.shows s) then Some s.id else None

-- the Session-Ids of all of them, ascending
abbrev pub live_sessions : View → Question → List (List ℕ)
live_sessions v q = filter_map (listed v q) v.sessions

-- of those that have the address (TS 29.213, 5.2)
abbrev pub sessions_at : View → List ℕ → List (List ℕ)
sessions_at v a = live_sessions v (HasAddress a)

-- of those that have a prefix which covers that one
abbrev pub sessions_covering : View → Ipv6Prefix → List (List ℕ)
sessions_covering v p = live_sessions v (Covers p)

-- and of those that have the subscriber among theirs
abbrev pub sessions_of : View → Subscriber → List (List ℕ)
sessions_of v x = live_sessions v (HasSubscriber x)

-- those among the records of Gx sessions
abbrev pub listed_among : Question → List (List ℕ × List Fact) → List (List ℕ)
listed_among q = filter_map (λ (e : List ℕ × List Fact). listed (beside e.1 []) q (gx e.0))

-- what the code asks
abbrev pub asked_value : Asked → Question
asked_value (on.Address a) = HasAddress (ipv4_octets a)
asked_value (on.Prefix p) = Covers p.now
asked_value (on.Subscriber x) = HasSubscriber x.now
