use Rattle.std.proofs.Common.{◌<◌, length, take, get_or, arith, rules}
use Rattle.std.proofs.lemmas.List.{flat_map_more}
use Rattle.dia_codec.specs.Spelling.{avp_view, avp_views}
use Rattle.dia_codec.specs.Written.{written_avp, FitsAvp}
use Rattle.dia_codec.proofs.Lengths.{no_avp, same_avp, so_far_le, views_more, AllByRecursion-push}
use Rattle.dia_codec.proofs.writing.put_avps.Goals as goal

pub put_avp-requires : goal.put_avp-requires
put_avp-requires c =
    let lt : c.loop-avp.avp-index < length c.args.avps.now = search rules in
    let a = get_or c.args.avps.now c.loop-avp.avp-index no_avp in
    let le = so_far_le c.args.avps.now c.loop-avp.avp-index a lt (same_avp c.args.avps.now c.loop-avp.avp-index lt) in
    omega arith

pub loop-avp-preserved : goal.loop-avp-preserved
loop-avp-preserved c =
    let lt : c.loop-avp.avp-index < length c.args.avps.now = search rules in
    let a = get_or c.args.avps.now c.loop-avp.avp-index no_avp in
    let more = views_more c.args.avps.now c.loop-avp.avp-index a lt (same_avp c.args.avps.now c.loop-avp.avp-index lt) in
    record {
      so_far = rw (c.in_ok-put_avp.ensures.written, c.loop-avp.invariant.so_far, more) (flat_map_more written_avp _ (avp_views (take c.loop-avp.avp-index c.args.avps.now)) (avp_view a));
      fits = rw more (AllByRecursion-push FitsAvp _ _ c.loop-avp.invariant.fits c.in_ok-put_avp.ensures.fits);
    }
