-- The sessions whose gateways refused a push, and what becomes of them (this project's own).
use Rattle.std.specs.Prelude.{ℕ, nat_lt, Bool, not, ◌||◌, List, map, length, take, Option, is_some, option_map, unwrap_or, if◌then◌else◌}
use Rattle.std.specs.BTreeMap.{insert_entry, is_at}
use Rattle.std.specs.List.{filter}
use Rattle.std.specs.Map.{lookup, remove_entry, set_value}
use Rattle.pcrf_values.specs.Orders.{text_cmp}
use Rattle.watched_links.specs.LostRulesLimits.{most_due, most_refused}
use Rattle.watched_links.specs.Stages.{stage_refused, stage_accepted, is_due, is_over, is_given_up}
use Rattle.watched_links.specs.declared.refused.Refused.{Refused}
use Rattle.watched_links.specs.declared.refused.Refused.TheVariants as outcome
use Rattle.watched_links.specs.declared.stage.Stage.{Stage}
use Rattle.watched_links.specs.declared.stage.Stage.TheVariants as stage

-- how it stands with each session, by Session-Id, which ascend
abbrev pub StageList : Type 0
StageList = List (List ℕ × Stage)

-- how many milliseconds lie between a refusal and the telling, and how it stands with each session
pub record RefusedValue : Type 0 where
  pub pause : ℕ
  pub stages : StageList

-- how it stands with a session, if it is known
abbrev pub stage_of : StageList → List ℕ → Option Stage
stage_of stages id = lookup (is_at (text_cmp id)) stages

-- with a session, if it is known, it stands as becomes of how it stood
abbrev pub changed : (Stage → Stage) → StageList → List ℕ → StageList
changed f stages id = unwrap_or (option_map (λ before. set_value (is_at (text_cmp id)) stages (f before)) (stage_of stages id)) stages

-- those are forgotten that fulfil the test
abbrev pub without : (Stage → Bool) → StageList → StageList
without test stages = filter (λ e. not (test e.1)) stages

-- the sessions as one comes: where it is a further one and there is no room, those are forgotten of which nothing more is told
abbrev pub with_room : StageList → List ℕ → StageList
with_room stages id =
    if is_some (stage_of stages id) || nat_lt (length stages) most_refused then stages
    else without is_given_up stages

-- a session can be known: it is, or there is room for one more
abbrev pub has_place : StageList → List ℕ → Bool
has_place stages id = is_some (stage_of stages id) || nat_lt (length (with_room stages id)) most_refused

-- with a session it stands so from now on, in the place of how it stood, or at its place in the order
abbrev pub placed : StageList → List ℕ → Stage → StageList
placed stages id now =
    if is_some (stage_of stages id) then set_value (is_at (text_cmp id)) stages now
    else insert_entry text_cmp (with_room stages id) id now

-- ---- what becomes of them

-- how it stands with a session once it refuses a push
abbrev pub refused_stage : RefusedValue → List ℕ → ℕ → Stage
refused_stage r id now = stage_refused r.pause now (stage_of r.stages id)

-- what comes of a refusal that is noted
abbrev pub outcome_of : Stage → Refused
outcome_of (stage.Refused since) = outcome.ToldAgain
outcome_of (stage.ToldAgain since) = outcome.ToldAgain
outcome_of (stage.GivenUp since) = outcome.GivenUp

-- what is known once a refusal is noted, and where it isn't
abbrev pub after_refusal : RefusedValue → List ℕ → ℕ → RefusedValue
after_refusal r id now = record r { stages = placed r.stages id (refused_stage r id now) }

abbrev pub not_noted : RefusedValue → List ℕ → RefusedValue
not_noted r id = record r { stages = with_room r.stages id }

-- a session's gateway accepts a push
abbrev pub accepted : RefusedValue → List ℕ → ℕ → RefusedValue
accepted r id now = record r { stages = changed (stage_accepted r.pause now) r.stages id }

-- all its rules are told again
abbrev pub told_again : RefusedValue → List ℕ → ℕ → RefusedValue
told_again r id now = record r { stages = changed (λ before. stage.ToldAgain now) r.stages id }

-- it is forgotten
abbrev pub forgotten : RefusedValue → List ℕ → RefusedValue
forgotten r id = record r { stages = remove_entry (is_at (text_cmp id)) r.stages }

-- those are forgotten that were told again, and refused nothing in time
abbrev pub without_over : RefusedValue → ℕ → RefusedValue
without_over r now = record r { stages = without (is_over r.pause now) r.stages }

-- the sessions that are due, in the order of their Session-Ids
abbrev pub due_of : ℕ → ℕ → StageList → List (List ℕ)
due_of pause now stages = map (λ e. e.0) (filter (λ e. is_due pause now e.1) stages)

-- the first of them, 100 at most
abbrev pub next_due : RefusedValue → ℕ → List (List ℕ)
next_due r now = take most_due (due_of r.pause now (without_over r now).stages)
