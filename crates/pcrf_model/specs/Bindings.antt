-- Session binding (TS 29.213, 5.2): which Gx session an AF session is bound to.
use Rattle.std.specs.Prelude.{ℕ, Bool, true, false, if◌then◌else◌, not, ◌&&◌, List, map, Option, Some, None}
use Rattle.std.proofs.Common.{Ordering, option_map, unwrap_or}
use Rattle.std.specs.Ordering.{is_eq, nat_cmp}
use Rattle.std.specs.List.{list_any, filter_map}
use Rattle.pcrf_values.specs.Orders.{pair_cmp, text_cmp}
use Rattle.pcrf_values.specs.Subscribers.{subscriber_cmp}
use Rattle.pcrf_values.specs.Sets.{greatest}
use Rattle.pcrf_model.specs.Sessions.{Session, session_cmp, gx, is_gx}
use Rattle.pcrf_values.specs.Live.{Shows, user_places}
use Rattle.pcrf_values.specs.Places.{address, prefix, apn, subscribers}
use Rattle.pcrf_values.specs.Prefixes.{covers}
use Rattle.pcrf_values.specs.Values.{Subscriber, Value, Subscribers, Prefix, value_cmp, Entry}
use Rattle.pcrf_model.specs.Views.{View, value}
use Rattle.pcrf_model.specs.Live.{is_live}

-- nothing is asked for, or just this is there
abbrev pub agrees : Option Value → Option Value → Bool
agrees None y = true
agrees (Some x) None = false
agrees (Some x) (Some y) = is_eq (value_cmp x y)

-- one of the first is among the second
abbrev pub shares_one : List Subscriber → List Subscriber → Bool
shares_one xs ys = list_any (λ x. list_any (λ y. is_eq (subscriber_cmp x y)) ys) xs

-- nothing is asked for, or one of the subscribers that are asked for is there
abbrev pub meets : Option Value → Option Value → Bool
meets None y = true
meets (Some (Subscribers xs)) (Some (Subscribers ys)) = shares_one xs ys
meets (Some x) y = false

-- nothing is asked for, or a prefix is there that covers the one that is asked for
abbrev pub is_covered : Option Value → Option Value → Bool
is_covered None y = true
is_covered (Some (Prefix p)) (Some (Prefix q)) = covers q p
is_covered (Some x) y = false

-- what binding reads of a session
pub record Party : Type 0 where
  pub live : Bool
  pub address : Option Value
  pub prefix : Option Value
  pub subscribers : Option Value
  pub apn : Option Value

-- a session as binding reads it
abbrev pub party : View → Session → Party
party v s = record {
  live = is_live v s;
  address = value v s address;
  prefix = value v s prefix;
  subscribers = value v s subscribers;
  apn = value v s apn;
}

-- What the first asks for the second has: both are live; of the address and the prefix that the
-- first shows the second shows its own, the address equal, the prefix one that covers; and the
-- second has one of the subscribers and the APN that the first shows, as far as it shows them.
abbrev pub suits : Party → Party → Bool
suits a s =
    a.live && s.live
    && agrees a.address s.address
    && is_covered a.prefix s.prefix
    && meets a.subscribers s.subscribers
    && agrees a.apn s.apn

-- the AF session a may be bound to the Gx session s
abbrev pub matches : View → Session → Session → Bool
matches v a s = not (is_gx a.kind) && is_gx s.kind && suits (party v a) (party v s)

-- a counter and a site
abbrev pub Stamp : Type 0
Stamp = ℕ × ℕ

-- by counter, and then by site
abbrev pub stamp_cmp : Stamp → Stamp → Ordering
stamp_cmp = pair_cmp nat_cmp nat_cmp

-- the counter and the site of a tag
abbrev pub stamp_of : Entry → Stamp
stamp_of e = (e.0.counter, e.0.site)

-- when a session last said where its user is reached: the greatest counter and site of the tags of
-- its address and its prefix
abbrev pub last_reached : Shows → Option Stamp
last_reached shows = greatest stamp_cmp (map stamp_of (filter_map shows user_places))

-- what decides among the sessions that match (this project's profile): that counter and site, and
-- then the Session-Id
abbrev pub Candidate : Type 0
Candidate = ℕ × (ℕ × List ℕ)

-- by counter, then site, then Session-Id
abbrev pub candidate_cmp : Candidate → Candidate → Ordering
candidate_cmp = pair_cmp nat_cmp (pair_cmp nat_cmp text_cmp)

-- how a session stands beside others
abbrev pub standing : View → Session → Option Candidate
standing v s = option_map (λ (t : Stamp). (t.0, (t.1, s.id))) (last_reached (v.shows s))

-- how s stands as a match of a, if it is one
abbrev pub candidate : View → Session → Session → Option Candidate
candidate v a s = if matches v a s then standing v s else None

-- the Gx session to which the AF session is bound: the greatest that matches, none where none matches
unfoldable pub bind : View → Session → Option Session
bind v a = option_map (λ (c : Candidate). gx c.1.1) (greatest candidate_cmp (filter_map (candidate v a) v.sessions))

-- the AF session a is bound to the Gx session s
abbrev pub is_bound_to : View → Session → Session → Bool
is_bound_to v s a = unwrap_or (option_map (λ x. is_eq (session_cmp x s)) (bind v a)) false
