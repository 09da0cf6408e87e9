use Rattle.std.proofs.Common.{◌≡◌, false, map, take}
use Rattle.std.specs.List.{list_any}
use Rattle.lattice_core.specs.Beneath.{stands_at}
use Rattle.lattice_core.proofs.keeping.find.Given as goal

-- none stands at the position so far
abbrev pub invariant-loop-fact : goal.invariant-loop-fact
invariant-loop-fact g l = list_any (stands_at l.sought) (map g.F.TypedFact.fact (take l.fact-index l.facts)) ≡ false
