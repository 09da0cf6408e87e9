-- With the facts of the components that are left all are there.
use Rattle.std.proofs.Common.{◌≡◌, ◌++◌, map, drop}
use Rattle.std.specs.List.{flat_map}
use Rattle.af_records.specs.RecordFacts.{fact_of}
use Rattle.pcrf_model.specs.Making.{component_facts}
use Rattle.site_machine.proofs.facts.component.put_components.Given as goal

abbrev pub invariant-loop-component : goal.invariant-loop-component
invariant-loop-component l =
    map fact_of l.facts.items ++ flat_map (component_facts l.fn.tag) (drop l.component-index l.components)
    ≡ map fact_of l.fn.facts.items ++ flat_map (component_facts l.fn.tag) l.components
