-- What forgetting changes, after any list of events.
use Rattle.std.specs.Prelude.{◌≡◌, ℕ, ◌<◌, List, [], ◌∷◌, ◌++◌, ◌⊎◌, false}
use Rattle.ended_questions.specs.Held.{Held, Unknown, Live, Ended, is_live}
use Rattle.ended_questions.specs.Forgetting.{Message, Whole, Facts, Site, World, Event, Restarts, only, may_operate, after_all, start}

-- what is held is what would be held had nobody forgotten; or it is nothing, where that is the end
abbrev pub Agrees : Held → Held → Type 0
Agrees kept all = (kept ≡ all) ⊎ ((kept ≡ Unknown) × (all ≡ Ended))

-- Forgetting changes only 'ended' to 'unknown', of any session x.
abbrev pub ForgettingChangesEndsAlone : Type 0
ForgettingChangesEndsAlone = (n : ℕ) → 1 < n → (events : List Event) (i x : ℕ) → i < n →
    Agrees (((after_all n start events).site i).kept x) (((after_all n start events).site i).all x)

-- what the site may do for its clients is what it might do had nobody forgotten
pub record ActsAlike (w : World) (s : Site) (x : ℕ) : Type 0 where
  pub lives : is_live (s.kept x) ≡ is_live (s.all x)
  pub operates : may_operate (w.ended x) (s.kept x) ≡ may_operate (w.ended x) (s.all x)

-- so it is at each site
abbrev pub ForgettingChangesNoDeed : Type 0
ForgettingChangesNoDeed = (n : ℕ) → 1 < n → (events : List Event) (i x : ℕ) → i < n →
    ActsAlike (after_all n start events) ((after_all n start events).site i) x

-- the site doesn't start again
abbrev pub StaysUp : ℕ → List Event → Type 0
StaysUp i [] = Unit {0}
StaysUp i (e ∷ es) = (e ≡ Restarts i → ⊥) × StaysUp i es

-- A site that held the end never shows the session live again, until it starts again.
abbrev pub EndedIsNeverLive : Type 0
EndedIsNeverLive = (n : ℕ) → 1 < n → (events more : List Event) (i x : ℕ) → i < n →
    ((after_all n start events).site i).kept x ≡ Ended → StaysUp i more →
    is_live (((after_all n start (events ++ more)).site i).kept x) ≡ false

-- the message brings nothing live of the session
abbrev pub BringsNothingLive : ℕ → Message → Type 0
BringsNothingLive x (Whole k a) = is_live (k x) ≡ false
BringsNothingLive x (Facts y f) = is_live (only y (Live f) x) ≡ false
BringsNothingLive x m = Unit {0}

-- so each of these
abbrev pub BringNothingLive : ℕ → List Message → Type 0
BringNothingLive x [] = Unit {0}
BringNothingLive x (m ∷ ms) = BringsNothingLive x m × BringNothingLive x ms

-- Once a site has forgotten: nobody shows the session live, and nothing live is in flight to a site that doesn't hold its end.
pub record IsBuried (n : ℕ) (w : World) (x : ℕ) : Type 0 where
  pub sites : (i : ℕ) → i < n → is_live ((w.site i).kept x) ≡ false
  pub links : (j i : ℕ) → j < n → i < n → (i ≡ j → ⊥) → ((w.site i).kept x ≡ Ended → ⊥) → BringNothingLive x (w.link j i)

-- so it is
abbrev pub WhatIsForgottenIsBuried : Type 0
WhatIsForgottenIsBuried = (n : ℕ) → 1 < n → (events : List Event) (i x : ℕ) → i < n →
    ((after_all n start events).site i).kept x ≡ Unknown → ((after_all n start events).site i).all x ≡ Ended →
    IsBuried n (after_all n start events) x
