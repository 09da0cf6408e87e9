use Rattle.std.proofs.Common.{◌≡◌, ◌-◌, length}
use Rattle.site_core.specs.Uncut.{uncut, uncut_within}
use Rattle.site_core.proofs.failed_avps.uncut.uncut.Given as goal

-- what is left is cut as often as all of it would still be
abbrev pub invariant-loop-turn : goal.invariant-loop-turn
invariant-loop-turn l = uncut_within (length l.bytes - l._turn) l.rest ≡ uncut l.bytes
