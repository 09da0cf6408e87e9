use Rattle.std.proofs.Common.{◌≡◌, take, map, None}
use Rattle.dia_codec.specs.Spelling.{avp_views}
use Rattle.dia_base.specs.Rows.{values_of, refusal_among}
use Rattle.dia_base.proofs.rows.read_each.Given as goal

-- none was refused so far, and each was read
abbrev pub invariant-loop-avp : goal.invariant-loop-avp
invariant-loop-avp g l = record {
  granted : refusal_among g.V.FromValue.kind (values_of l.key (avp_views (take l.avp-index l.avps))) ≡ None;
  read : l.each.items ≡ map g.V.FromValue.of_value (values_of l.key (avp_views (take l.avp-index l.avps)));
}
