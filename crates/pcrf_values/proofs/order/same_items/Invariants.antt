use Rattle.std.proofs.Common.{◌≡◌, drop, ◌↔◌}
use Rattle.pcrf_values.proofs.order.same_items.Given as goal

-- the lists are the same where what is left of them is
abbrev pub invariant-loop-item : goal.invariant-loop-item
invariant-loop-item g l = (drop l.item-index l.ours ≡ l.rest) ↔ (l.ours ≡ l.theirs)
