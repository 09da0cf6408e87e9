-- Sessions that have ended, and what is held without one.
use Rattle.std.specs.Prelude.{◌≡◌, ◌⊎◌, true, Bool, List, []}
use Rattle.pcrf_values.specs.Sets.{Same}
use Rattle.pcrf_values.specs.Held.{is_ended}
use Rattle.pcrf_model.specs.Sessions.{Session}
use Rattle.pcrf_model.specs.Holdings.{SessionFact, facts_on, Holding, with_facts_of}

-- the record of the session shows its end
abbrev pub has_ended : Holding → Session → Bool
has_ended h s = is_ended (facts_on h.facts s)

-- no fact of the session is held, each of every other is, and the clock stays
abbrev pub forgotten : Holding → Session → Holding
forgotten h s = with_facts_of h s [] h.clock

-- Of each session the first has the facts that the second has; or it has none, and the second shows that it ended.
pub record LacksTheEnded (xs ys : List SessionFact) : Type 0 where
  pub each : (s : Session) → Same (facts_on xs s) (facts_on ys s) ⊎ ((facts_on xs s ≡ []) × (is_ended (facts_on ys s) ≡ true))
