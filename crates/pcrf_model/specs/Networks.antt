-- Sessions of users that are reached by IPv6 prefixes, for the worked examples.
use Rattle.std.specs.Prelude.{ℕ, List, [], ◌∷◌, Option, Some, None, codes}
use Rattle.pcrf_values.specs.declared.numbers.RequestKind.TheVariants.{Initial, Update}
use Rattle.pcrf_values.specs.Prefixes.{Ipv6Prefix}
use Rattle.pcrf_model.specs.Requests.{UserValue, RequestValue}
use Rattle.pcrf_model.specs.Replies.{ReplyValue}
use Rattle.pcrf_model.specs.Sessions.{Session}
use Rattle.pcrf_model.specs.Steps.{SiteState}
use Rattle.pcrf_model.specs.Samples.{user_with, request, call_of, imsi, first_session, second_session, host_address, update, audio}
use Rattle.pcrf_model.specs.Scenes.{empty_site, answers, serves}

-- 2001:db8:0:n::m
abbrev pub network : ℕ → ℕ → List ℕ
network n m =
    32 ∷ 1 ∷ 13 ∷ 184 ∷ 0 ∷ 0 ∷ 0 ∷ n ∷ 0 ∷ 0 ∷ 0 ∷ 0 ∷ 0 ∷ 0 ∷ 0 ∷ m ∷ []

-- the first bits of it, and zeros past them where it has them
abbrev pub prefix_of : ℕ → ℕ → ℕ → Ipv6Prefix
prefix_of bits n m = (bits, network n m)

-- reached by an address or a prefix or both
abbrev pub user_at : Option (List ℕ) → Option Ipv6Prefix → UserValue
user_at a p = record (user_with a None None) { prefix = p }

-- an initial request with all that it needs but, maybe, where the user is reached
abbrev pub initial_at : Session → Option (List ℕ) → Option Ipv6Prefix → RequestValue
initial_at s a p =
    request s Initial 0
    (record (user_with a (Some (codes "ims")) (Some (imsi ∷ []))) { prefix = p })

-- an update of the first session that gives a prefix
abbrev pub update_prefix : ℕ → Ipv6Prefix → RequestValue
update_prefix n p = request first_session Update n (user_at None (Some p))

-- a call from there
abbrev pub call_at : Option (List ℕ) → Option Ipv6Prefix → RequestValue
call_at a p = call_of (user_at a p) (audio ∷ [])

-- the first session, by a prefix of 64 bits alone
abbrev pub by_prefix : SiteState
by_prefix = serves 0 empty_site (initial_at first_session None (Some (prefix_of 64 1 0)))

-- what is answered there to a call from that prefix, as such a call gives it
abbrev pub answer_to : ℕ → ℕ → ℕ → ReplyValue
answer_to bits n m = answers 0 by_prefix (call_at None (Some (prefix_of bits n m)))

-- and to a call that gives an address also
abbrev pub answer_with_address : ReplyValue
answer_with_address =
    answers 0 by_prefix (call_at (Some (host_address 1)) (Some (prefix_of 128 1 5)))

-- a call from within the prefix
abbrev pub call_by_prefix : SiteState
call_by_prefix = serves 0 by_prefix (call_at None (Some (prefix_of 128 1 5)))

-- and a later session of a shorter prefix, which covers it too
abbrev pub wider_session : SiteState
wider_session = serves 0 call_by_prefix (initial_at second_session None (Some (prefix_of 60 0 0)))

-- the first session, which then gives an address also
abbrev pub and_address : SiteState
and_address = serves 0 wider_session (update 1 (Some (host_address 1)))

-- a session by address and prefix, of which the prefix changes
abbrev pub by_both : SiteState
by_both = serves 0 (serves 0 empty_site initial_by_both) (update_prefix 1 (prefix_of 64 2 0))
  where
    initial_by_both : RequestValue
    initial_by_both = initial_at first_session (Some (host_address 1)) (Some (prefix_of 64 1 0))
