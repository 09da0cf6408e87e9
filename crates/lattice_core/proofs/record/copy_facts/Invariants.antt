use Rattle.std.proofs.Common.{◌≡◌, take}
use Rattle.lattice_core.proofs.record.copy_facts.Given as goal

abbrev pub invariant-each : goal.invariant-each
invariant-each g l = l.copies.items ≡ take l.fact-index l.facts
