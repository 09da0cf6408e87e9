use Rattle.std.proofs.Common.{◌≡◌, length}
use Rattle.std.specs.List.{filter_map}
use Rattle.af_records.specs.RemovedLists.{removed_part}
use Rattle.af_records.proofs.removed.RemovedPartsIterator.next.Given as goal

abbrev pub invariant-each : goal.invariant-each
invariant-each l = filter_map removed_part l.self-inside.left.now ≡ l.fn.self

abbrev pub decreases-each : goal.decreases-each
decreases-each l = length l.self-inside.left.now
