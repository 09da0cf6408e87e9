use Rattle.std.proofs.Common.{◌≡◌, ◌<◌, true, false, length, get_or, is_some, ◌∙◌, rules}
use Rattle.std.specs.Prelude.{option_copied}
use Rattle.dia_codec.specs.Fields.{key_of}
use Rattle.dia_codec.specs.Spelling.{avp_view}
use Rattle.dia_codec.proofs.Lengths.{no_avp, same_avp}
use Rattle.dia_base.specs.Rows.{same_key}
use Rattle.dia_base.proofs.Values.{values_keyed, values_other, two_values, first_found}
use Rattle.dia_base.proofs.rows.at_most_once.Goals as goal
use Rattle.dia_base.proofs.rows.at_most_once.Goals.{then-eq+else-is_some, else-eq}

pub returns-then-is_some-clause-repeated : goal.returns-then-is_some-clause-repeated
returns-then-is_some-clause-repeated c =
    let a = get_or c.args.avps.now c.loop-avp.avp-index no_avp in
    let lt : c.loop-avp.avp-index < length c.args.avps.now = search rules in
    let is = same_avp c.args.avps.now c.loop-avp.avp-index lt in
    let keyed : same_key (key_of (avp_view a)) c.args.key ≡ true = search rules in
    let some : is_some (option_copied c.loop-avp.found) ≡ true = search rules in
    two_values c.args.key c.args.avps.now c.loop-avp.avp-index a lt is keyed _ some c.loop-avp.invariant

pub loop-avp-preserved : goal.loop-avp-preserved
loop-avp-preserved c =
    let a = get_or c.args.avps.now c.loop-avp.avp-index no_avp in
    let lt : c.loop-avp.avp-index < length c.args.avps.now = search rules in
    let is = same_avp c.args.avps.now c.loop-avp.avp-index lt in
    elim c.if-eq.branch [
      | then-eq+else-is_some w ↦
          let keyed : same_key (key_of (avp_view a)) c.args.key ≡ true = search rules in
          let none : is_some (option_copied c.loop-avp.found) ≡ false = search rules in
          let more = values_keyed c.args.key c.args.avps.now c.loop-avp.avp-index a lt is keyed in
          let first = first_found _ _ a none c.loop-avp.invariant in
          rw w.found-is (more ∙ first)
      | else-eq w ↦
          let other : same_key (key_of (avp_view a)) c.args.key ≡ false = search rules in
          rw w.found-is (values_other c.args.key c.args.avps.now c.loop-avp.avp-index a lt is other ∙ c.loop-avp.invariant)
    ]
