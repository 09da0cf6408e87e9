-- The session that is abandoned, record by record: all but its binding is read of its own facts alone.
use Rattle.std.specs.Prelude.{ℕ, Bool, not, ◌&&◌, is_none, if◌then◌else◌, List, [], ◌∷◌, Option, Some, None}
use Rattle.std.specs.List.{list_all}
use Rattle.pcrf_values.specs.Facts.{Fact}
use Rattle.pcrf_values.specs.FlowWords.{or_else}
use Rattle.pcrf_values.specs.Held.{entry_shown, is_aborted}
use Rattle.pcrf_values.specs.Live.{af_is_live, shows_at}
use Rattle.pcrf_model.specs.Aborting.{client_places, abort_of}
use Rattle.pcrf_model.specs.Bindings.{bind}
use Rattle.pcrf_model.specs.Pushing.{is_of_host, is_home}
use Rattle.pcrf_model.specs.Replies.{AbortValue}
use Rattle.pcrf_model.specs.Sessions.{af}
use Rattle.pcrf_model.specs.Views.{View}
use Rattle.bind_index.specs.Beside.{beside}

-- what is read of an AF session of these facts
abbrev pub alone : List Fact → View
alone facts = beside [] facts

-- the facts say who its client is
abbrev pub shows_client : List Fact → Bool
shows_client facts = list_all (shows_at (entry_shown facts)) client_places

-- site i is its home
abbrev pub is_at_home : ℕ → List Fact → Bool
is_at_home i facts = is_home i (alone facts) (af [])

-- its host is the given one, any where none is given
abbrev pub is_at_host : Option (List ℕ) → List Fact → Bool
is_at_host name facts = is_of_host (alone facts) name (af [])

-- it is live and shows its client, was not asked to abort yet, and is of that site and host
abbrev pub is_asked : ℕ → Option (List ℕ) → List Fact → Bool
is_asked i name facts =
    af_is_live facts && shows_client facts && not (is_aborted facts) && is_at_home i facts && is_at_host name facts

-- and is bound to none: what is asked of it
abbrev pub abort_if_abandoned : View → ℕ → Option (List ℕ) → List ℕ → List Fact → Option AbortValue
abort_if_abandoned v i name id facts =
    if is_asked i name facts && is_none (bind v (af id)) then Some (abort_of (alone facts) (af id)) else None

-- what is asked of the first of these that is abandoned
abbrev pub first_abort : View → ℕ → Option (List ℕ) → List (List ℕ × List Fact) → Option AbortValue
first_abort v i name [] = None
first_abort v i name (e ∷ es) = or_else (abort_if_abandoned v i name e.0 e.1) (first_abort v i name es)
