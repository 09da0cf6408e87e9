use Rattle.std.proofs.Common.{◌≡◌, ◌==◌, map, take, false}
use Rattle.std.specs.List.{list_any}
use Rattle.rx_profile.proofs.component.has_number.Given as goal

-- none so far has the number
abbrev pub invariant-loop-item : goal.invariant-loop-item
invariant-loop-item g l = list_any (λ m. m == l.number) (map g.T.Numbered.number_of (take l.item-index l.items)) ≡ false
