-- The Gx sessions that match an AF session, record by record.
use Rattle.std.specs.Prelude.{ℕ, Bool, true, false, List, [], ◌∷◌, Option, Some, None}
use Rattle.std.proofs.Common.{Ordering}
use Rattle.std.specs.Ordering.{is_eq, is_lt}
use Rattle.std.specs.List.{filter_map}
use Rattle.pcrf_values.specs.Sets.{best, greatest}
use Rattle.pcrf_values.specs.declared.tag.Tag.{Tag}
use Rattle.pcrf_values.specs.Facts.{Fact}
use Rattle.pcrf_values.specs.Prefixes.{Ipv6Prefix, covers}
use Rattle.pcrf_values.specs.Values.{Subscriber}
use Rattle.pcrf_model.specs.Sessions.{gx, af}
use Rattle.pcrf_model.specs.Bindings.{Stamp, Candidate, candidate_cmp, candidate, matches, shares_one}
use Rattle.bind_index.specs.Beside.{beside}
use Rattle.bind_index.specs.declared.binding.Match.{Match}

-- the Gx session of the second facts matches the AF session of the first
abbrev pub matches_beside : List Fact → List Fact → Bool
matches_beside asking facts = matches (beside facts asking) (af []) (gx [])

-- how the Gx session with these facts stands as a match of the AF session with those, if it is one
abbrev pub match_of : List Fact → List ℕ → List Fact → Option Candidate
match_of asking id facts = candidate (beside facts asking) (af []) (gx id)

-- the matches among the records of Gx sessions
abbrev pub matches_among : List Fact → List (List ℕ × List Fact) → List Candidate
matches_among asking = filter_map (λ (e : List ℕ × List Fact). match_of asking e.0 e.1)

-- the counter and the site of a tag
abbrev pub stamp_in : Tag → Stamp
stamp_in t = (t.counter, t.site)

-- how a match of the code stands
abbrev pub match_value : Match → Candidate
match_value m = (m.tag.counter, (m.tag.site, m.session.now))

-- one alone
abbrev pub one : {A : Type 0} → A → List A
one x = x ∷ []

-- the greatest of the best so far and of those that follow
abbrev pub best_from : Option Candidate → List Candidate → Option Candidate
best_from None cs = greatest candidate_cmp cs
best_from (Some c) cs = Some (best (λ x y. is_lt (candidate_cmp x y)) c cs)

-- ---- what is asked, as registers hold it

-- nothing is asked for, or just this is there
abbrev pub agrees_by : {T : Type 0} → (T → T → Ordering) → Option (Tag × T) → Option (Tag × T) → Bool
agrees_by cmp None y = true
agrees_by cmp (Some x) None = false
agrees_by cmp (Some x) (Some y) = is_eq (cmp x.1 y.1)

-- nothing is asked for, or a prefix is there that covers the one that is asked for
abbrev pub is_covered_by : Option (Tag × Ipv6Prefix) → Option (Tag × Ipv6Prefix) → Bool
is_covered_by None y = true
is_covered_by (Some x) None = false
is_covered_by (Some x) (Some y) = covers y.1 x.1

-- nothing is asked for, or one of the subscribers that are asked for is there
abbrev pub meets_by : Option (Tag × List Subscriber) → Option (Tag × List Subscriber) → Bool
meets_by None y = true
meets_by (Some x) None = false
meets_by (Some x) (Some y) = shares_one x.1 y.1
