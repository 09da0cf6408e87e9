-- The session that is due, record by record: whether it is asked for, and where its gateway is, is read of its own facts alone.
use Rattle.std.specs.Prelude.{ℕ, Bool, not, ◌&&◌, if◌then◌else◌, List, [], ◌∷◌, Option, Some, None}
use Rattle.pcrf_values.specs.Facts.{Fact}
use Rattle.pcrf_values.specs.FlowWords.{or_else}
use Rattle.pcrf_values.specs.Live.{gx_is_live}
use Rattle.pcrf_values.specs.Limits.{delta_limit}
use Rattle.pcrf_model.specs.Sessions.{gx}
use Rattle.pcrf_model.specs.Views.{View}
use Rattle.pcrf_model.specs.Tables.{Tables}
use Rattle.pcrf_model.specs.Differences.{is_empty, first}
use Rattle.pcrf_model.specs.Replies.{PushValue}
use Rattle.pcrf_model.specs.Pushing.{is_of_host, is_home, push_to}
use Rattle.bind_index.specs.Beside.{beside}
use Rattle.rule_delta.specs.Pushed.{untold_difference}

-- what is read of a Gx session of these facts
abbrev pub alone : List Fact → View
alone facts = beside facts []

-- site i is its home
abbrev pub is_at_home : ℕ → List Fact → Bool
is_at_home i facts = is_home i (alone facts) (gx [])

-- its host is the given one, any where none is given
abbrev pub is_at_host : Option (List ℕ) → List Fact → Bool
is_at_host name facts = is_of_host (alone facts) name (gx [])

-- it is live, and both hold
abbrev pub is_asked : ℕ → Option (List ℕ) → List Fact → Bool
is_asked i name facts = gx_is_live facts && is_at_home i facts && is_at_host name facts

-- the push of the session, if it is due
abbrev pub push_due : Tables → View → ℕ → Option (List ℕ) → List ℕ → List Fact → Option PushValue
push_due t v i name id facts =
    if is_asked i name facts && not (is_empty (untold_difference t v (gx id))) then Some (push_to (alone facts) (gx id) (first delta_limit (untold_difference t v (gx id)))) else None

-- that of the first of these that is due
abbrev pub first_push : Tables → View → ℕ → Option (List ℕ) → List (List ℕ × List Fact) → Option PushValue
first_push t v i name [] = None
first_push t v i name (e ∷ es) = or_else (push_due t v i name e.0 e.1) (first_push t v i name es)
