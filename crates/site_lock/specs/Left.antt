-- What a site holds that forgets sessions: what is kept of all that it took, less the sessions that it forgot.
use Rattle.std.specs.Prelude.{◌≡◌, ℕ, List, [], ◌∷◌}
use Rattle.pcrf_values.specs.Sets.{In, Same}
use Rattle.pcrf_model.specs.Sessions.{Session}
use Rattle.pcrf_model.specs.Tables.{Tables}
use Rattle.pcrf_model.specs.Holdings.{Holding, facts_on, union, kept_of}
use Rattle.pcrf_model.specs.Steps.{SiteState}
use Rattle.pcrf_model.specs.Views.{view}
use Rattle.site_machine.specs.Forgotten.{forgotten, LacksTheEnded}
use Rattle.ended_sessions.specs.Laws.{LivesAlike}
use Rattle.site_book.specs.Gains.{gain, HoldsAll}
use Rattle.site_lock.specs.Deeds.{Deed, Entered, BegunAnew, Forgot, ChronicleValue, LeadsTo, MayDo, after, as_book, forgotten_in}

-- ---- what is left

-- All that is gathered by the deeds, where h was before: what an entry adds comes to it, and the facts of a session that is forgotten go out of it.
abbrev pub gathered : Tables → ℕ → SiteState → Holding → List Deed → Holding
gathered t i s h [] = h
gathered t i s h (Entered x ∷ ds) = gathered t i (after t i s (Entered x)) (union h (gain t i s x.event x.reply)) ds
gathered t i s h (BegunAnew ∷ ds) = gathered t i (after t i s BegunAnew) h ds
gathered t i s h (Forgot r ∷ ds) = gathered t i (after t i s (Forgot r)) (forgotten h r) ds

-- the site holds what is kept of its opening and of what the entries added, without the facts that it had of each session when it forgot it
abbrev pub HoldsWhatIsLeft : SiteState → ChronicleValue → Type 0
HoldsWhatIsLeft opening c = c.site.state.holding ≡ kept_of (gathered c.site.tables c.site.number opening opening.holding c.history)

-- ---- beside all that was taken

-- the opening and all that the entries added, whatever was forgotten since
abbrev pub taken : Tables → ℕ → SiteState → Holding → List Deed → Holding
taken t i s h [] = h
taken t i s h (Entered x ∷ ds) = taken t i (after t i s (Entered x)) (union h (gain t i s x.event x.reply)) ds
taken t i s h (d ∷ ds) = taken t i (after t i s d) h ds

-- all that the site took
abbrev pub all_taken : SiteState → ChronicleValue → Holding
all_taken opening c = taken c.site.tables c.site.number opening opening.holding c.history

-- no entry adds a fact of a session that was forgotten before it, where these were at first
abbrev pub NoneAgain : Tables → ℕ → SiteState → List Session → List Deed → Type 0
NoneAgain t i s gone [] = Unit {0}
NoneAgain t i s gone (Entered x ∷ ds) =
    ((r : Session) → In r gone → facts_on (gain t i s x.event x.reply).facts r ≡ []) × NoneAgain t i (after t i s (Entered x)) gone ds
NoneAgain t i s gone (BegunAnew ∷ ds) = NoneAgain t i (after t i s BegunAnew) gone ds
NoneAgain t i s gone (Forgot r ∷ ds) = NoneAgain t i (after t i s (Forgot r)) (r ∷ gone) ds

-- nothing of a session that it forgot was taken again
abbrev pub ForgotForGood : SiteState → ChronicleValue → Type 0
ForgotForGood opening c = NoneAgain c.site.tables c.site.number opening [] c.history

-- Of each session that it never forgot the site holds what is kept of all that it took. Where it forgot none, that is all that it holds. Where nothing
-- of a session that it forgot was taken again, it lacks of all that it took just sessions that have ended there: so all that is read of live sessions is
-- what is read of all that it took.
pub record LeavesTheRest (opening : SiteState) (c : ChronicleValue) : Type 0 where
  pub each : (r : Session) → (In r (forgotten_in c.history) → ⊥) → Same (facts_on c.site.state.holding.facts r) (facts_on (kept_of (all_taken opening c)).facts r)
  pub none : forgotten_in c.history ≡ [] → (seats : ℕ) → HoldsAll (as_book seats opening c)
  pub lacks : ForgotForGood opening c → LacksTheEnded c.site.state.holding.facts (kept_of (all_taken opening c)).facts
  pub alike : ForgotForGood opening c → LivesAlike (view c.site.state.holding.facts) (view (all_taken opening c).facts)

-- so does every history of a site whose opening is kept
abbrev pub HistoriesLeaveTheRest : Type 0
HistoriesLeaveTheRest = (opening : SiteState) (c : ChronicleValue) → kept_of opening.holding ≡ opening.holding → LeadsTo opening c.history c.site → LeavesTheRest opening c

-- ---- one session

-- a deed by which a session is forgotten changes nothing of a session that lives
abbrev pub ForgettingChangesNoLife : Type 0
ForgettingChangesNoLife = (t : Tables) (i : ℕ) (s : SiteState) (r : Session) → MayDo t i s (Forgot r) →
    LivesAlike (view (after t i s (Forgot r)).holding.facts) (view s.holding.facts)
