use Rattle.std.proofs.Common.{◌<◌, length, get_or, arith, rules}
use Rattle.dia_codec.proofs.Lengths.{no_avp, same_avp, so_far_le}
use Rattle.dia_codec.proofs.writing.avps_len.Goals as goal

pub returns-then-avp-gt-MOST_BYTES : goal.returns-then-avp-gt-MOST_BYTES
returns-then-avp-gt-MOST_BYTES c =
    let lt : c.loop-avp.avp-index < length c.args.avps.now = search rules in
    let a = get_or c.args.avps.now c.loop-avp.avp-index no_avp in
    let le = so_far_le c.args.avps.now c.loop-avp.avp-index a lt (same_avp c.args.avps.now c.loop-avp.avp-index lt) in
    omega (arith, c.if-avp-gt-MOST_BYTES.true)

pub returns-then-length-gt-MOST_BYTES : goal.returns-then-length-gt-MOST_BYTES
returns-then-length-gt-MOST_BYTES c =
    let lt : c.loop-avp.avp-index < length c.args.avps.now = search rules in
    let a = get_or c.args.avps.now c.loop-avp.avp-index no_avp in
    let le = so_far_le c.args.avps.now c.loop-avp.avp-index a lt (same_avp c.args.avps.now c.loop-avp.avp-index lt) in
    omega (arith, c.own_len-own.ensures, c.padding.ensures)
