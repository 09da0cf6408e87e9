-- How it stands with a session whose gateway refused a push (this project's own).
use Rattle.std.specs.Prelude.{ℕ, ◌-◌, min, nat_le, Bool, true, false, not, Option, Some, None, if◌then◌else◌}
use Rattle.watched_links.specs.LostRulesLimits.{answer_millis}
use Rattle.watched_links.specs.declared.stage.Stage.{Stage}
use Rattle.watched_links.specs.declared.stage.Stage.TheVariants.{Refused, ToldAgain, GivenUp}

-- the pause has passed since then
abbrev pub has_passed : ℕ → ℕ → ℕ → Bool
has_passed pause since now = nat_le pause (now - since)

-- what is answered now is taken for an answer to what was told again then: neither the pause nor ten seconds have passed
abbrev pub is_answer : ℕ → ℕ → ℕ → Bool
is_answer pause since now = not (has_passed (min pause answer_millis) since now)

-- a push is refused: a session that waits goes on waiting, a refusal of what was told again gives it up, and any other begins anew
abbrev pub stage_refused : ℕ → ℕ → Option Stage → Stage
stage_refused pause now None = Refused now
stage_refused pause now (Some (Refused since)) = Refused since
stage_refused pause now (Some (ToldAgain since)) = if is_answer pause since now then GivenUp since else Refused now
stage_refused pause now (Some (GivenUp since)) = if is_answer pause since now then GivenUp since else Refused now

-- a push is accepted: of one that was given up the rules have changed, unless that answers what was told again
abbrev pub stage_accepted : ℕ → ℕ → Stage → Stage
stage_accepted pause now (Refused since) = Refused since
stage_accepted pause now (ToldAgain since) = ToldAgain since
stage_accepted pause now (GivenUp since) = if is_answer pause since now then GivenUp since else Refused now

-- all rules are to be told again: the pause has passed since the refusal
abbrev pub is_due : ℕ → ℕ → Stage → Bool
is_due pause now (Refused since) = has_passed pause since now
is_due pause now (ToldAgain since) = false
is_due pause now (GivenUp since) = false

-- what was told again wasn't refused in time: nothing is left to do
abbrev pub is_over : ℕ → ℕ → Stage → Bool
is_over pause now (Refused since) = false
is_over pause now (ToldAgain since) = not (is_answer pause since now)
is_over pause now (GivenUp since) = false

-- nothing more is told
abbrev pub is_given_up : Stage → Bool
is_given_up (Refused since) = false
is_given_up (ToldAgain since) = false
is_given_up (GivenUp since) = true
