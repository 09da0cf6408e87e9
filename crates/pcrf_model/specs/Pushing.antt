-- Pushes: what a site tells gateways of its own accord, by a re-authorisation request (TS 29.212, 4.5.2 and 5.6.4).
use Rattle.std.specs.Prelude.{ℕ, ◌==◌, Bool, true, false, not, ◌&&◌, List, [], Option, Some, None, find, is_some}
use Rattle.std.proofs.Common.{option_map, unwrap_or}
use Rattle.std.specs.Ordering.{is_eq}
use Rattle.pcrf_values.specs.Orders.{text_cmp}
use Rattle.pcrf_values.specs.RuleValues.{DeltaValue}
use Rattle.pcrf_model.specs.Sessions.{Session, is_gx}
use Rattle.pcrf_values.specs.Places.{host, realm}
use Rattle.pcrf_model.specs.Holdings.{Holding}
use Rattle.pcrf_model.specs.Views.{View, view, text}
use Rattle.pcrf_model.specs.Live.{is_live, home}
use Rattle.pcrf_model.specs.Tables.{Tables}
use Rattle.pcrf_model.specs.Rules.{rules}
use Rattle.pcrf_model.specs.Differences.{told_rules_of, difference, is_empty}
use Rattle.pcrf_model.specs.Making.{told_facts, next_tag, next_operation}
use Rattle.pcrf_model.specs.Refusals.{is_clock_full}
use Rattle.pcrf_model.specs.Replies.{PushValue, Pushed, Outcome}
use Rattle.pcrf_model.specs.Serving.{delta_of}

-- the session's host is the given one, any where none is given
abbrev pub is_of_host : View → Option (List ℕ) → Session → Bool
is_of_host v None s = true
is_of_host v (Some name) s = unwrap_or (option_map (λ x. is_eq (text_cmp x name)) (text v s host)) false

-- site i is the home of the session
abbrev pub is_home : ℕ → View → Session → Bool
is_home i v s = unwrap_or (option_map (λ n. n == i) (home v s)) false

-- a live Gx session whose home is site i, of that host, whose gateway was not told its rules
abbrev pub is_due : Tables → ℕ → View → Option (List ℕ) → Session → Bool
is_due t i v name s = is_gx s.kind && is_live v s && is_home i v s && is_of_host v name s && not (is_empty (difference (told_rules_of v s) (rules t v s)))

-- the one with the least Session-Id
unfoldable pub due_session : Tables → ℕ → View → Option (List ℕ) → Option Session
due_session t i v name = find (is_due t i v name) v.sessions

-- what is told to the gateway of the session
abbrev pub push_to : View → Session → DeltaValue → PushValue
push_to v s d = record { session = s.id; host = unwrap_or (text v s host) []; realm = unwrap_or (text v s realm) []; delta = d }

-- what is pushed of a session, and the operation that is added
abbrev pub push_outcome : ℕ → Tables → ℕ → Holding → View → Session → Outcome
push_outcome most t i h v s =
    let d : DeltaValue = delta_of most t v s in
    record { reply = Pushed (Some (push_to v s d)); added = Some (next_operation i h 0 s (told_facts (next_tag i h 0) d)) }

-- nothing is pushed
abbrev pub nothing_pushed : Outcome
nothing_pushed = record { reply = Pushed None; added = None }

-- the push to the gateway of the session that is due, at most so many entries of its difference; none where nothing is due
unfoldable pub push : ℕ → Tables → ℕ → Holding → Option (List ℕ) → Outcome
push most t i h name =
    let v : View = view h.facts in
    unwrap_or (option_map (push_outcome most t i h v) (due_session t i v name)) nothing_pushed

-- something is due, and no counter is left for it
unfoldable pub lacks_counter : Tables → ℕ → Holding → Option (List ℕ) → Bool
lacks_counter t i h name = is_some (due_session t i (view h.facts) name) && is_clock_full h
