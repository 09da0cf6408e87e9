-- What gateways answer to the pushes of a session, one after another.
use Rattle.std.specs.Prelude.{◌≡◌, ℕ, true, List, [], ◌∷◌, Some}
use Rattle.watched_links.specs.Stages.{is_answer, stage_refused, stage_accepted}
use Rattle.watched_links.specs.declared.stage.Stage.{Stage}

-- the gateway refused a push at that time, or accepted one
pub data Answer : Type 0 where
  Refuses : ℕ → Answer
  Accepts : ℕ → Answer

-- when
abbrev pub time_of : Answer → ℕ
time_of (Refuses now) = now
time_of (Accepts now) = now

-- how it stands with a session that is known once its gateway answers
abbrev pub answered : ℕ → Stage → Answer → Stage
answered pause before (Refuses now) = stage_refused pause now (Some before)
answered pause before (Accepts now) = stage_accepted pause now before

-- once it gave all of these
abbrev pub all_answered : ℕ → Stage → List Answer → Stage
all_answered pause before [] = before
all_answered pause before (a ∷ later) = all_answered pause (answered pause before a) later

-- each comes so soon that it is taken for an answer to what was told again then
abbrev pub AreInTime : ℕ → ℕ → List Answer → Type 0
AreInTime pause since [] = Unit {0}
AreInTime pause since (a ∷ later) = (is_answer pause since (time_of a) ≡ true) × AreInTime pause since later
