use Rattle.std.proofs.Common.{◌≡◌, ◌≤◌, length, take}
use Rattle.dia_codec.specs.Spelling.{avp_views}
use Rattle.dia_base.specs.Rows.{values_of}
use Rattle.dia_base.proofs.rows.count_of.Given as goal

abbrev pub invariant-loop-avp : goal.invariant-loop-avp
invariant-loop-avp l = record {
  counted : l.count ≡ length (values_of l.key (avp_views (take l.avp-index l.avps)));
  within : l.count ≤ l.avp-index;
}
