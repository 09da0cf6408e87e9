use Rattle.std.proofs.Common.{length, map}
use Rattle.pcrf_values.specs.Sets.{In}
use Rattle.pcrf_values.specs.Facts.{Fact}
use Rattle.gx_records.specs.GxFacts.{fact_of}
use Rattle.indexed_state.specs.Alike.{Refreshes}
use Rattle.indexed_state.proofs.alike.refresh.Given as goal

-- all refresh it where all that are left do
abbrev pub invariant-each : goal.invariant-each
invariant-each l =
    ((f : Fact) → In f (map fact_of l.left) → Refreshes l.known f)
    → (f : Fact) → In f (map fact_of l.facts) → Refreshes l.known f

abbrev pub decreases-each : goal.decreases-each
decreases-each l = length l.left
