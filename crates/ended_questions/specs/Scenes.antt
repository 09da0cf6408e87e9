-- Schedules in which all forget, worked out.
use Rattle.std.specs.Prelude.{ℕ, Bool, not, ◌&&◌, true, List, [], ◌∷◌}
use Rattle.ended_questions.specs.Held.{Held, is_live, is_ended}
use Rattle.ended_questions.specs.Forgetting.{Site, Event, Operates, Ends, Writes, Asks, Marks, Answers, Releases, Forgets, Takes, Cuts, Restarts, each_below, after_all, start}

-- the site has forgotten the session
abbrev pub has_forgotten : ℕ → Site → Bool
has_forgotten x s = not (is_live (s.kept x)) && not (is_ended (s.kept x)) && is_ended (s.all x)

-- all n sites have, after these events, of session 3
abbrev pub all_have_forgotten : ℕ → List Event → Bool
all_have_forgotten n events = each_below n (λ i. has_forgotten 3 ((after_all n start events).site i))

abbrev pub all_sessions : ℕ → Bool
all_sessions x = true

-- Two sites: site 1 ends what site 0 began; site 0 asks, site 1 has all marks, and both forget.
abbrev pub two_sites : List Event
two_sites =
    Operates 0 3 (7 ∷ []) ∷ Takes 0 1 ∷ Ends 1 3 ∷ Takes 1 0
    ∷ Asks 1 all_sessions ∷ Takes 0 1 ∷ Answers 1 ∷ Takes 1 0 ∷ Releases 1 ∷ Forgets ∷ Takes 0 1 ∷ []

-- Three: site 1 ends it, and begins again before site 2 has heard of that; site 0 tells both by its question, and takes no answer before each has the
-- other's mark.
abbrev pub three_sites : List Event
three_sites =
    Operates 0 3 (7 ∷ []) ∷ Takes 0 1 ∷ Takes 0 2 ∷ Ends 1 3 ∷ Takes 1 0 ∷ Cuts 1 2 0 ∷ Restarts 1
    ∷ Writes 2 1 ∷ Takes 2 1
    ∷ Asks 1 all_sessions ∷ Takes 0 1 ∷ Marks 1 2 ∷ Takes 0 2 ∷ Marks 2 1 ∷ Takes 1 2 ∷ Answers 2 ∷ Takes 2 1 ∷ Answers 1 ∷ Takes 1 0 ∷ Takes 2 0
    ∷ Releases 1 ∷ Releases 2 ∷ Forgets ∷ Takes 0 1 ∷ Takes 0 2 ∷ []

-- Two sessions at two sites, of which one ends: the question is about that one alone.
abbrev pub one_of_two : List Event
one_of_two =
    Operates 0 3 (7 ∷ []) ∷ Operates 0 4 (8 ∷ []) ∷ Takes 0 1 ∷ Takes 0 1 ∷ Ends 1 3 ∷ Takes 1 0
    ∷ Asks 1 all_sessions ∷ Takes 0 1 ∷ Answers 1 ∷ Takes 1 0 ∷ Releases 1 ∷ Forgets ∷ Takes 0 1 ∷ []

-- what a site holds of a session after these events
abbrev pub held_after : ℕ → List Event → ℕ → ℕ → Held
held_after n events i x = ((after_all n start events).site i).kept x
