use Rattle.std.proofs.Common.{◌≡◌, map, length}
use Rattle.rx_profile.specs.Services.{repeats}
use Rattle.rx_profile.proofs.component.repeats.Given as goal

-- what comes twice does so in the rest
abbrev pub invariant-loop-first : goal.invariant-loop-first
invariant-loop-first g l = repeats (map g.T.Numbered.number_of l.items) ≡ repeats (map g.T.Numbered.number_of l.rest)

abbrev pub decreases-loop-first : goal.decreases-loop-first
decreases-loop-first g l = length l.rest
