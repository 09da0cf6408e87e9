use Rattle.std.proofs.Common.{◌≡◌, ◌++◌, take}
use Rattle.std.specs.List.{flat_map, AllByRecursion}
use Rattle.dia_codec.specs.Spelling.{avp_views}
use Rattle.dia_codec.specs.Written.{written_avp, FitsAvp}
use Rattle.dia_codec.proofs.writing.put_avps.Given as goal

abbrev pub invariant-loop-avp : goal.invariant-loop-avp
invariant-loop-avp l = record {
  so_far : l.out.items ≡ l.initial.out.items ++ flat_map written_avp (avp_views (take l.avp-index l.avps));
  fits : AllByRecursion FitsAvp (avp_views (take l.avp-index l.avps));
}
