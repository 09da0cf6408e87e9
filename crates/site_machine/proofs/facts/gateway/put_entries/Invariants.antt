-- What is told of the names so far is there.
use Rattle.std.proofs.Common.{◌≡◌, ◌++◌, map}
use Rattle.gx_records.specs.GxFacts.{fact_of}
use Rattle.site_machine.specs.Told.{told_fact}
use Rattle.site_machine.proofs.facts.gateway.put_entries.Given as goal

abbrev pub invariant-loop-name : goal.invariant-loop-name
invariant-loop-name l = map fact_of l.facts.items ≡ map fact_of l.fn.facts.items ++ map (told_fact l.fn.tag) l.yielded
