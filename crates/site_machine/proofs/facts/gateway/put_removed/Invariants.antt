-- The names before the index are there.
use Rattle.std.proofs.Common.{◌≡◌, ◌++◌, map, take}
use Rattle.site_machine.specs.Told.{removed_entry}
use Rattle.site_machine.proofs.facts.gateway.put_removed.Given as goal

abbrev pub invariant-loop-name : goal.invariant-loop-name
invariant-loop-name l = l.entries.items ≡ l.fn.entries.items ++ map removed_entry (take l.name-index l.fn.names)
