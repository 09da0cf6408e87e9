-- The rules before the index are there.
use Rattle.std.proofs.Common.{◌≡◌, ◌++◌, map, take}
use Rattle.site_machine.specs.Told.{installed_entry}
use Rattle.site_machine.proofs.facts.gateway.put_installed.Given as goal

abbrev pub invariant-loop-rule : goal.invariant-loop-rule
invariant-loop-rule l = l.entries.items ≡ l.fn.entries.items ++ map installed_entry (take l.rule-index l.fn.rules)
