use Rattle.std.proofs.Common.{◌≡◌, ◌<◌, true, false, length, get_or, ap, ◌∙◌, arith, rules}
use Rattle.std.proofs.lemmas.List.{length_push}
use Rattle.dia_codec.specs.Fields.{key_of}
use Rattle.dia_codec.specs.Spelling.{avp_view}
use Rattle.dia_codec.proofs.Lengths.{no_avp, same_avp}
use Rattle.dia_base.specs.Rows.{same_key}
use Rattle.dia_base.proofs.Values.{values_keyed, values_other}
use Rattle.dia_base.proofs.rows.count_of.Goals as goal
use Rattle.dia_base.proofs.rows.count_of.Goals.{then-eq, else-eq}

pub loop-avp-preserved : goal.loop-avp-preserved
loop-avp-preserved c =
    let a = get_or c.args.avps.now c.loop-avp.avp-index no_avp in
    let lt : c.loop-avp.avp-index < length c.args.avps.now = search rules in
    let is = same_avp c.args.avps.now c.loop-avp.avp-index lt in
    elim c.if-eq.branch [
      | then-eq w ↦
          let keyed : same_key (key_of (avp_view a)) c.args.key ≡ true = search rules in
          let more = ap length (values_keyed c.args.key c.args.avps.now c.loop-avp.avp-index a lt is keyed) ∙ length_push _ a.value.now in
          record { counted = omega (arith, more); within = omega arith }
      | else-eq w ↦
          let other : same_key (key_of (avp_view a)) c.args.key ≡ false = search rules in
          let same = ap length (values_other c.args.key c.args.avps.now c.loop-avp.avp-index a lt is other) in
          record { counted = omega (arith, same); within = omega arith }
    ]
