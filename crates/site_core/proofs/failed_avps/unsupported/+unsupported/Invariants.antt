use Rattle.std.proofs.Common.{◌≡◌, ◌+◌, ◌*◌, drop}
use Rattle.dia_codec.specs.Spelling.{avp_views}
use Rattle.site_core.specs.Faults.{fault_among}
use Rattle.site_core.specs.Unsupported.{unsupported_at, unsupported_within}
use Rattle.site_core.proofs.failed_avps.unsupported.+unsupported.Given as goal

abbrev pub decreases-unsupported_within : goal.decreases-unsupported_within
decreases-unsupported_within l = 5 * l.depth

abbrev pub decreases-first_in_group : goal.decreases-first_in_group
decreases-first_in_group l = 5 * l.depth + 1

abbrev pub decreases-first_inside : goal.decreases-first_inside
decreases-first_inside l = 5 * l.depth + 2

abbrev pub decreases-unsupported_at : goal.decreases-unsupported_at
decreases-unsupported_at l = 5 * l.depth + 3

abbrev pub decreases-first_unsupported : goal.decreases-first_unsupported
decreases-first_unsupported l = 5 * l.depth + 4

-- the first among those that are left is the first among all
abbrev pub invariant-first_unsupported-loop-avp : goal.invariant-first_unsupported-loop-avp
invariant-first_unsupported-loop-avp l =
    fault_among (unsupported_at (unsupported_within l.depth) l.grammar) (avp_views (drop l.avp-index l.avps))
    ≡ fault_among (unsupported_at (unsupported_within l.depth) l.grammar) (avp_views l.avps)
