-- Aborts: what a site asks of application functions of its own accord, by an abort session request
-- (TS 29.214, 4.4.6.1), where no session is left to which theirs is bound.
use Rattle.std.specs.Prelude.{ℕ, Bool, not, ◌&&◌, List, [], ◌∷◌, Option, Some, None, find, is_some, is_none}
use Rattle.std.proofs.Common.{option_map, unwrap_or}
use Rattle.std.specs.List.{list_all}
use Rattle.pcrf_values.specs.Facts as facts
use Rattle.pcrf_values.specs.Live.{shows_at}
use Rattle.pcrf_values.specs.Places.{Place, host, realm, last}
use Rattle.pcrf_model.specs.Sessions.{Session, is_gx}
use Rattle.pcrf_model.specs.Holdings.{Holding}
use Rattle.pcrf_model.specs.Views.{View, view, text}
use Rattle.pcrf_model.specs.Live.{is_live}
use Rattle.pcrf_model.specs.Bindings.{bind}
use Rattle.pcrf_model.specs.Making.{next_operation}
use Rattle.pcrf_model.specs.Refusals.{is_clock_full}
use Rattle.pcrf_model.specs.Replies.{AbortValue, Aborted, Outcome}
use Rattle.pcrf_model.specs.Pushing.{is_of_host, is_home}

-- the places that say who the client of a session is, and which site served it last
abbrev pub client_places : List Place
client_places = host ∷ realm ∷ last ∷ []

-- a live AF session that shows its client, is bound to none and was not asked to abort, whose home
-- is site i, of that host
abbrev pub is_abandoned : ℕ → View → Option (List ℕ) → Session → Bool
is_abandoned i v name s =
    not (is_gx s.kind) && is_live v s && list_all (shows_at (v.shows s)) client_places
    && is_none (bind v s) && not (v.aborted s) && is_home i v s && is_of_host v name s

-- the one with the least Session-Id
unfoldable pub abandoned_session : ℕ → View → Option (List ℕ) → Option Session
abandoned_session i v name = find (is_abandoned i v name) v.sessions

-- what is asked of the application function of the session
abbrev pub abort_of : View → Session → AbortValue
abort_of v s = record {
  session = s.id;
  host = unwrap_or (text v s host) [];
  realm = unwrap_or (text v s realm) [];
}

-- what is asked of a session, and the operation that is added
abbrev pub abort_outcome : ℕ → Holding → View → Session → Outcome
abort_outcome i h v s = record {
  reply = Aborted (Some (abort_of v s));
  added = Some (next_operation i h 0 s (facts.Aborted ∷ []));
}

-- nothing is asked
abbrev pub nothing_aborted : Outcome
nothing_aborted = record { reply = Aborted None; added = None }

-- the abort of the session that is abandoned; none where none is
unfoldable pub abort : ℕ → Holding → Option (List ℕ) → Outcome
abort i h name =
    let v : View = view h.facts in
    unwrap_or (option_map (abort_outcome i h v) (abandoned_session i v name)) nothing_aborted

-- one is abandoned, and no counter is left for it
unfoldable pub lacks_counter_to_abort : ℕ → Holding → Option (List ℕ) → Bool
lacks_counter_to_abort i h name =
    is_some (abandoned_session i (view h.facts) name) && is_clock_full h
