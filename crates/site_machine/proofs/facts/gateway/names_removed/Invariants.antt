-- The names before the index are there.
use Rattle.std.proofs.Common.{◌≡◌, map, take}
use Rattle.pcrf_model.specs.Differences.{told_name_of}
use Rattle.site_machine.specs.Told.{removed_entry}
use Rattle.site_machine.proofs.facts.gateway.names_removed.Given as goal

abbrev pub invariant-loop-name : goal.invariant-loop-name
invariant-loop-name l = l.entries.items ≡ map (λ pair. removed_entry (told_name_of pair)) (take l.name-index l.fn.told)
