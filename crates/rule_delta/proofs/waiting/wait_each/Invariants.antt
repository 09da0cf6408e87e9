use Rattle.std.proofs.Common.{ℕ, List, ◌⊎◌}
use Rattle.pcrf_values.specs.Sets.{In}
use Rattle.pcrf_model.specs.Sessions.{gx}
use Rattle.pcrf_model.specs.Views.{view}
use Rattle.rule_delta.specs.Waits.{Keeps, WaitsIfDue}
use Rattle.rule_delta.proofs.waiting.wait_each.Given as goal

-- all that waited wait, and those so far
abbrev pub invariant-loop-id : goal.invariant-loop-id
invariant-loop-id l = record {
  keeps : Keeps l.fn.waiting l.waiting;
  so_far : (x : List ℕ) → In x l.initial.id-iterator → In x l.id-iterator ⊎ WaitsIfDue (view l.state.facts) l.waiting (gx x);
}
