use Rattle.pcc_rules.proofs.SoFar.{FlowsSoFar}
use Rattle.pcc_rules.proofs.derivation.add_flows.Given as goal

abbrev pub invariant-loop-component : goal.invariant-loop-component
invariant-loop-component l = FlowsSoFar l.tables l.session l.known l.fn.found.items l.found.items l.component-iterator
