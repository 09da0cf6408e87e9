-- When a session is due, whatever its gateway answers.
use Rattle.std.proofs.Common.{◌≡◌, ℕ, Bool, false, true, List, [], ◌∷◌, refl, ap, if◌then◌else◌, ◌∙◌}
use Rattle.watched_links.specs.Answers.{Answer, Refuses, Accepts, AreInTime, all_answered, answered, time_of}
use Rattle.watched_links.specs.Stages.{is_answer, is_due}
use Rattle.watched_links.specs.declared.stage.Stage.{Stage}
use Rattle.watched_links.specs.declared.stage.Stage.TheVariants.{Refused, ToldAgain, GivenUp}

-- one that waits goes on waiting
pub waits : (pause since : ℕ) (answers : List Answer) → all_answered pause (Refused since) answers ≡ Refused since
waits pause since [] = refl
waits pause since (Refuses now ∷ later) = waits pause since later
waits pause since (Accepts now ∷ later) = waits pause since later

-- of what was given up a further answer in time changes nothing, and a later one begins anew
given_up : (pause since : ℕ) (a : Answer) → is_answer pause since (time_of a) ≡ true → answered pause (GivenUp since) a ≡ GivenUp since
given_up pause since (Refuses now) e = ap (λ b. if b then GivenUp since else Refused now) e
given_up pause since (Accepts now) e = ap (λ b. if b then GivenUp since else Refused now) e

pub begins_anew : (pause since : ℕ) (a : Answer) → is_answer pause since (time_of a) ≡ false → answered pause (GivenUp since) a ≡ Refused (time_of a)
begins_anew pause since (Refuses now) e = ap (λ b. if b then GivenUp since else Refused now) e
begins_anew pause since (Accepts now) e = ap (λ b. if b then GivenUp since else Refused now) e

stays_given_up : (pause since : ℕ) (answers : List Answer) → AreInTime pause since answers → all_answered pause (GivenUp since) answers ≡ GivenUp since
stays_given_up pause since [] t = refl
stays_given_up pause since (a ∷ later) t = ap (λ (s : Stage). all_answered pause s later) (given_up pause since a t.0) ∙ stays_given_up pause since later t.1

-- what was told again isn't due behind answers in time
pub told_once : (pause since now : ℕ) (answers : List Answer) → AreInTime pause since answers → is_due pause now (all_answered pause (ToldAgain since) answers) ≡ false
told_once pause since now [] t = refl
told_once pause since now (Refuses at ∷ later) t =
    ap (λ (b : Bool). is_due pause now (all_answered pause (if b then GivenUp since else Refused at) later)) t.0
    ∙ ap (is_due pause now) (stays_given_up pause since later t.1)
told_once pause since now (Accepts at ∷ later) t = told_once pause since now later t.1
