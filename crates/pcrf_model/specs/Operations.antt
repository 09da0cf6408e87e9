-- Operations: what accepted requests and pushes make, and what sites send each other.
use Rattle.std.specs.Prelude.{ℕ, List, [], ◌∷◌}
use Rattle.pcrf_values.specs.Facts.{Fact}
use Rattle.pcrf_model.specs.Sessions.{Session}
use Rattle.pcrf_model.specs.Holdings.{Holding, nothing_held, under, union}

-- A stamp (the counter and the site that made it), the CC-Request-Number (0 where there is none), and facts, ascending, on one session.
pub record Operation : Type 0 where
  pub counter : ℕ
  pub site : ℕ
  pub number : ℕ
  pub session : Session
  pub facts : List Fact

-- with one more operation
abbrev pub with_operation : Holding → Operation → Holding
with_operation h o = union h (record { facts = under o.session o.facts; clock = o.counter })

-- what a set of operations says: all their facts, and the greatest counter
abbrev pub holding_of : List Operation → Holding
holding_of [] = nothing_held
holding_of (o ∷ os) = with_operation (holding_of os) o
