use Rattle.std.proofs.Common.{◌≡◌, take}
use Rattle.rx_profile.proofs.component.copy_flows.Given as goal

abbrev pub invariant-loop-flow : goal.invariant-loop-flow
invariant-loop-flow l = l.copies.items ≡ take l.flow-index l.flow-items
