use Rattle.std.proofs.Common.{ℕ, List, ◌⊎◌}
use Rattle.pcrf_values.specs.Sets.{In}
use Rattle.pcrf_values.specs.Facts.{Fact}
use Rattle.pcrf_model.specs.Sessions.{gx}
use Rattle.pcrf_model.specs.Views.{view}
use Rattle.rule_delta.specs.Waits.{WaitsIfDue}
use Rattle.rule_delta.proofs.waiting.all_waiting.Given as goal

-- those so far wait
abbrev pub invariant-loop-id : goal.invariant-loop-id
invariant-loop-id l = (e : List ℕ × List Fact) → In e l.initial.id-iterator → In e l.id-iterator ⊎ WaitsIfDue (view l.state.facts) l.waiting (gx e.0)
