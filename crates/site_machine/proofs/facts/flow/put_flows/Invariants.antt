-- With the facts of the flows that are left all are there.
use Rattle.std.proofs.Common.{◌≡◌, ◌++◌, map, drop}
use Rattle.std.specs.List.{flat_map}
use Rattle.af_records.specs.RecordFacts.{fact_of}
use Rattle.pcrf_model.specs.Making.{flow_facts}
use Rattle.site_machine.proofs.facts.flow.put_flows.Given as goal

abbrev pub invariant-loop-flow : goal.invariant-loop-flow
invariant-loop-flow l =
    map fact_of l.facts.items ++ flat_map (flow_facts l.fn.component l.fn.tag) (drop l.flow-index l.flows)
    ≡ map fact_of l.fn.facts.items ++ flat_map (flow_facts l.fn.component l.fn.tag) l.flows
