use Rattle.std.proofs.Common.{◌≡◌, length, map}
use Rattle.pcrf_values.specs.Held.{join_of}
use Rattle.lattice_core.proofs.keeping.adds_nothing.Given as goal

-- all add what those that are left add
abbrev pub invariant-each : goal.invariant-each
invariant-each g l =
    join_of (map g.F.TypedFact.fact l.ours) (map g.F.TypedFact.fact l.theirs) ≡ join_of (map g.F.TypedFact.fact l.ours) (map g.F.TypedFact.fact l.left)

abbrev pub decreases-each : goal.decreases-each
decreases-each g l = length l.left
