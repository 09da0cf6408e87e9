-- Retelling: what a site does of its own accord about what a gateway may have lost. Each name that it
-- was told counts as not there, so the next answer or push provisions all rules of the session anew
-- (TS 29.212, 4.5.2).
use Rattle.std.specs.Prelude.{ℕ, Bool, true, false, not, ◌&&◌, if◌then◌else◌, List, [], map, Some, None}
use Rattle.pcrf_values.specs.RuleValues.{DeltaValue}
use Rattle.pcrf_values.specs.ToldWords.{ToldRule}
use Rattle.pcrf_model.specs.Sessions.{Session, gx}
use Rattle.pcrf_model.specs.Holdings.{Holding}
use Rattle.pcrf_model.specs.Views.{View, view}
use Rattle.pcrf_model.specs.Live.{is_live}
use Rattle.pcrf_model.specs.Differences.{told_rules_of, told_name_of, is_empty}
use Rattle.pcrf_model.specs.Making.{told_facts, next_tag, next_operation}
use Rattle.pcrf_model.specs.Refusals.{is_clock_full}
use Rattle.pcrf_model.specs.Replies.{Retold, Outcome}

-- the names of what was told, to be removed, and no rule
abbrev pub all_removed : List ToldRule → DeltaValue
all_removed told = record { removed = map told_name_of told; installed = [] }

-- all that the gateway of the session was told, so
abbrev pub told_away : View → Session → DeltaValue
told_away v s = all_removed (told_rules_of v s)

-- a live session whose gateway was told a rule
abbrev pub was_told : View → Session → Bool
was_told v s = is_live v s && not (is_empty (told_away v s))

-- each of the names is told as none, by one operation
abbrev pub retell_outcome : ℕ → Holding → View → Session → Outcome
retell_outcome i h v s = record {
  reply = Retold true;
  added = Some (next_operation i h 0 s (told_facts (next_tag i h 0) (told_away v s)));
}

-- nothing is to be done
abbrev pub nothing_retold : Outcome
nothing_retold = record { reply = Retold false; added = None }

-- of the gateway's session of that Session-Id, at any site, its home or not
unfoldable pub retell : ℕ → Holding → List ℕ → Outcome
retell i h id =
    let v : View = view h.facts in
    if was_told v (gx id) then retell_outcome i h v (gx id) else nothing_retold

-- something is to be done, and no counter is left for it
unfoldable pub lacks_counter_to_retell : Holding → List ℕ → Bool
lacks_counter_to_retell h id = was_told (view h.facts) (gx id) && is_clock_full h
