use Rattle.std.proofs.Common.{◌≡◌, map, take}
use Rattle.lattice_core.proofs.record.copy_each.Given as goal

abbrev pub invariant-each : goal.invariant-each
invariant-each g l = l.copies.items ≡ map (λ f. f.now) (take l.fact-index l.facts)
