use Rattle.std.proofs.Common.{◌≡◌, length}
use Rattle.std.specs.List.{filter_map}
use Rattle.af_records.specs.FlowLists.{flow_said, flows_after}
use Rattle.af_records.proofs.flows.FlowsIterator.next.Given as goal

abbrev pub invariant-each : goal.invariant-each
invariant-each l = flows_after l.self-inside.last (filter_map flow_said l.self-inside.left.now) ≡ l.fn.self

abbrev pub decreases-each : goal.decreases-each
decreases-each l = length l.self-inside.left.now
