use Rattle.std.proofs.Common.{◌≡◌, drop}
use Rattle.std.specs.List.{filter}
use Rattle.dia_codec.specs.Spelling.{avp_views}
use Rattle.dia_base.specs.Rows.{first_of, has_key}
use Rattle.site_core.specs.Faults.{one_too_many}
use Rattle.site_core.proofs.failed_avps.fault.one_too_many.Given as goal

-- it stands among those that are left
abbrev pub invariant-loop-avp : goal.invariant-loop-avp
invariant-loop-avp l =
    first_of (drop l.left (filter (has_key l.row.key) (avp_views (drop l.avp-index l.avps))))
    ≡ one_too_many l.row (avp_views l.avps)
