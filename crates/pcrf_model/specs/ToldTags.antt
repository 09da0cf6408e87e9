-- The tags of what gateways were told: they have no request number, and a counter up to the clock.
use Rattle.std.specs.Prelude.{◌≡◌, ℕ, ◌≤◌, List}
use Rattle.pcrf_values.specs.Sets.{In}
use Rattle.pcrf_values.specs.Places.{OfRuleName}
use Rattle.pcrf_values.specs.Facts.{Fact, Field}
use Rattle.pcrf_model.specs.Holdings.{SessionFact}

-- if the fact tells of a rule's name, the number in its tag is 0, and the counter is up to the clock
abbrev pub IsToldUpTo : ℕ → Fact → Type 0
IsToldUpTo clock (Field (OfRuleName n) t x) = (t.number ≡ 0) × (t.counter ≤ clock)
IsToldUpTo clock f = Unit {0}

-- so it is of each fact
pub record ToldUpTo (clock : ℕ) (facts : List SessionFact) : Type 0 where
  pub each : (x : SessionFact) → In x facts → IsToldUpTo clock x.1
