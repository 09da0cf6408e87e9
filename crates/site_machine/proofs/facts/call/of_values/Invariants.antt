-- The facts of the values so far.
use Rattle.std.proofs.Common.{◌≡◌, map}
use Rattle.lattice_core.specs.SessionFacts.{session_fact}
use Rattle.af_records.specs.RecordFacts.{fact_of}
use Rattle.site_machine.proofs.facts.call.of_values.Given as goal

abbrev pub invariant-loop-value : goal.invariant-loop-value
invariant-loop-value l = map fact_of l.facts.items ≡ map (session_fact l.fn.tag) l.yielded
