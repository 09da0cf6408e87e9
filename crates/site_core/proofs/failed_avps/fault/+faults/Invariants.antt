use Rattle.std.proofs.Common.{◌≡◌, ◌+◌, ◌*◌, drop}
use Rattle.std.specs.List.{filter}
use Rattle.dia_codec.specs.Spelling.{avp_views}
use Rattle.dia_base.specs.Rows.{has_key}
use Rattle.site_core.specs.Faults.{fault_among, fault_within, rows_fault, value_fault}
use Rattle.site_core.proofs.failed_avps.fault.+faults.Given as goal

abbrev pub decreases-fault_within : goal.decreases-fault_within
decreases-fault_within l = 6 * l.depth

abbrev pub decreases-group_fault : goal.decreases-group_fault
decreases-group_fault l = 6 * l.depth + 1

abbrev pub decreases-value_fault : goal.decreases-value_fault
decreases-value_fault l = 6 * l.depth + 2

abbrev pub decreases-first_at_fault : goal.decreases-first_at_fault
decreases-first_at_fault l = 6 * l.depth + 3

abbrev pub decreases-row_fault : goal.decreases-row_fault
decreases-row_fault l = 6 * l.depth + 4

abbrev pub decreases-rows_fault : goal.decreases-rows_fault
decreases-rows_fault l = 6 * l.depth + 5

-- what is at fault first among those that are left is so among all
abbrev pub invariant-first_at_fault-loop-avp : goal.invariant-first_at_fault-loop-avp
invariant-first_at_fault-loop-avp l =
    fault_among (value_fault (fault_within l.depth) l.row.kind) (filter (has_key l.row.key) (avp_views (drop l.avp-index l.avps)))
    ≡ fault_among (value_fault (fault_within l.depth) l.row.kind) (filter (has_key l.row.key) (avp_views l.avps))

-- and row by row
abbrev pub invariant-rows_fault-loop-row : goal.invariant-rows_fault-loop-row
invariant-rows_fault-loop-row l =
    rows_fault (fault_within l.depth) (drop l.row-index l.rows) (avp_views l.avps)
    ≡ rows_fault (fault_within l.depth) l.rows (avp_views l.avps)
