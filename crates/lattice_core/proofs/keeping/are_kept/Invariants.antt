use Rattle.std.proofs.Common.{◌≡◌, ◌≤◌, ◌-◌, length, map, take}
use Rattle.pcrf_values.specs.Held.{kept_list}
use Rattle.lattice_core.proofs.keeping.are_kept.Given as goal

-- the first ones are kept
abbrev pub invariant-each : goal.invariant-each
invariant-each g l = record {
  kept : kept_list (map g.F.TypedFact.fact (take l.number l.facts)) ≡ map g.F.TypedFact.fact (take l.number l.facts);
  within : l.number ≤ length l.facts;
}

abbrev pub decreases-each : goal.decreases-each
decreases-each g l = length l.facts - l.number
