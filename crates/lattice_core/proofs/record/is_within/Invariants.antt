use Rattle.std.proofs.Common.{◌≡◌, length, map}
use Rattle.lattice_core.specs.Sets.{facts_subset}
use Rattle.lattice_core.proofs.record.is_within.Given as goal

-- all are, just where all that are left are
abbrev pub invariant-each : goal.invariant-each
invariant-each g l =
    facts_subset (map g.F.TypedFact.fact l.facts) (map g.F.TypedFact.fact l.others)
    ≡ facts_subset (map g.F.TypedFact.fact l.left) (map g.F.TypedFact.fact l.others)

abbrev pub decreases-each : goal.decreases-each
decreases-each g l = length l.left
