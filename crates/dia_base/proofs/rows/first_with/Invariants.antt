use Rattle.std.proofs.Common.{◌≡◌, [], None, take}
use Rattle.dia_codec.specs.Spelling.{avp_views}
use Rattle.dia_base.specs.Rows.{values_of, first_at}
use Rattle.dia_base.proofs.rows.first_with.Given as goal

-- none has the key so far
abbrev pub invariant-loop-avp : goal.invariant-loop-avp
invariant-loop-avp l = record {
  none : first_at l.key (avp_views (take l.avp-index l.avps)) ≡ None;
  empty : values_of l.key (avp_views (take l.avp-index l.avps)) ≡ [];
}
