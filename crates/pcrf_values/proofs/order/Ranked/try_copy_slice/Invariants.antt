use Rattle.std.proofs.Common.{◌≡◌, take}
use Rattle.pcrf_values.proofs.order.Ranked.try_copy_slice.Given as goal

abbrev pub invariant-loop-item : goal.invariant-loop-item
invariant-loop-item g l = l.copies.items ≡ take l.item-index l.items
