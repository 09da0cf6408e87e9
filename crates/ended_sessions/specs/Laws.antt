-- The laws of forgetting.
use Rattle.std.specs.Prelude.{◌≡◌, ℕ, true, List, [], Option}
use Rattle.pcrf_values.specs.Sets.{Same}
use Rattle.pcrf_values.specs.Places.{Place}
use Rattle.pcrf_model.specs.Sessions.{Session}
use Rattle.pcrf_model.specs.Holdings.{SessionFact, facts_on, Holding, union, kept_of}
use Rattle.pcrf_model.specs.Views.{View, view}
use Rattle.pcrf_model.specs.Live.{is_live, home}
use Rattle.pcrf_model.specs.Bindings.{matches, bind}
use Rattle.pcrf_model.specs.Tables.{Tables}
use Rattle.pcrf_model.specs.Rules.{rules}
use Rattle.pcrf_model.specs.Differences.{told_rules_of, difference}
use Rattle.pcrf_model.specs.Pushing.{is_due, due_session}
use Rattle.pcrf_model.specs.Aborting.{is_abandoned, abandoned_session}
use Rattle.pcrf_model.specs.SiteOverviews.{bindings_of}
use Rattle.ended_sessions.specs.Forgotten.{has_ended, forgotten, LacksTheEnded}

-- ---- one session

-- it has no fact left, every other has what it had, and the clock is what it was
pub record ForgetsOne (h : Holding) (s : Session) : Type 0 where
  pub gone : facts_on (forgotten h s).facts s ≡ []
  pub elsewhere : (r : Session) → (r ≡ s → ⊥) → Same (facts_on (forgotten h s).facts r) (facts_on h.facts r)
  pub clock : (forgotten h s).clock ≡ h.clock

-- so it is
abbrev pub ForgettingChangesOne : Type 0
ForgettingChangesOne = (h : Holding) (s : Session) → ForgetsOne h s

-- to keep and to forget goes in either order
abbrev pub ForgettingIsKept : Type 0
ForgettingIsKept = (h : Holding) (s : Session) → kept_of (forgotten h s) ≡ forgotten (kept_of h) s

-- what comes later has of a session that it doesn't speak of what was left, and so nothing of one that was forgotten
abbrev pub ForgettingUnderUnions : Type 0
ForgettingUnderUnions = (h k : Holding) (s r : Session) → (r ≡ s → ⊥) →
    Same (facts_on (kept_of (union (forgotten h s) k)).facts r) (facts_on (kept_of (union h k)).facts r)

-- ---- all that is read of sessions that live

-- Of the two views the same is read but which sessions have ended and which are known: what each place shows and all that shows;
-- sessions live, homes, matches, bindings, rules, told entries and differences; who is due for a push or abandoned, and the first such.
pub record LivesAlike (v w : View) : Type 0 where
  pub places : (s : Session) (p : Place) → v.shows s p ≡ w.shows s p
  pub all : v.all ≡ w.all
  pub lives : (s : Session) → is_live v s ≡ is_live w s
  pub homes : (s : Session) → home v s ≡ home w s
  pub candidates : (a s : Session) → matches v a s ≡ matches w a s
  pub bindings : (a : Session) → bind v a ≡ bind w a
  pub lists : (t : Tables) (s : Session) → rules t v s ≡ rules t w s
  pub entries : (s : Session) → told_rules_of v s ≡ told_rules_of w s
  pub differences : (t : Tables) (s : Session) →
      difference (told_rules_of v s) (rules t v s) ≡ difference (told_rules_of w s) (rules t w s)
  pub due : (t : Tables) (i : ℕ) (name : Option (List ℕ)) (s : Session) → is_due t i v name s ≡ is_due t i w name s
  pub pushed : (t : Tables) (i : ℕ) (name : Option (List ℕ)) → due_session t i v name ≡ due_session t i w name
  pub abandoned : (i : ℕ) (name : Option (List ℕ)) (s : Session) → is_abandoned i v name s ≡ is_abandoned i w name s
  pub aborted : (i : ℕ) (name : Option (List ℕ)) → abandoned_session i v name ≡ abandoned_session i w name
  pub bound : bindings_of v ≡ bindings_of w

-- so it is where the one lacks sessions alone that have ended
abbrev pub LackingTheEndedReadsAlike : Type 0
LackingTheEndedReadsAlike = (xs ys : List SessionFact) → LacksTheEnded xs ys → LivesAlike (view xs) (view ys)

-- and so where one that has ended is forgotten
abbrev pub ForgettingLeavesTheLive : Type 0
ForgettingLeavesTheLive = (h : Holding) (s : Session) → has_ended h s ≡ true → LivesAlike (view (forgotten h s).facts) (view h.facts)
