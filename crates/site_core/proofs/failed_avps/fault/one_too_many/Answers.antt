use Rattle.std.proofs.Common.{◌≡◌, ◌+◌, ◌-◌, true, false, rules, sym, ap, ◌∙◌, drop, get_or}
use Rattle.dia_codec.specs.Fields.{key_of}
use Rattle.dia_codec.specs.Spelling.{avp_view}
use Rattle.dia_codec.proofs.Lengths.{no_avp, same_avp}
use Rattle.dia_base.specs.Rows.{first_of, same_key}
use Rattle.site_core.proofs.Steps.{keyed_first, keyed_after, drop_one}
use Rattle.site_core.proofs.failed_avps.fault.one_too_many.Goals as goal
use Rattle.site_core.proofs.failed_avps.fault.one_too_many.Goals.{then-eq+else-left-eq0, else-eq}

pub loop-avp-preserved : goal.loop-avp-preserved
loop-avp-preserved c =
    let a = get_or c.args.avps.now c.loop-avp.avp-index no_avp in
    let is = same_avp c.args.avps.now c.loop-avp.avp-index c.loop-avp-test.true in
    elim c.if-eq.branch [
      | then-eq+else-left-eq0 w ↦
          let keyed : same_key (key_of (avp_view a)) c.args.row.now.key ≡ true = search rules in
          let first = keyed_first c.args.row.now.key c.args.avps.now c.loop-avp.avp-index a c.loop-avp-test.true is keyed in
          let one_less : c.loop-avp.left ≡ c.if-eq.left + 1 = search rules in
          sym (ap first_of (ap (drop c.loop-avp.left) first ∙ drop_one c.loop-avp.left c.if-eq.left _ _ one_less)) ∙ c.loop-avp.invariant
      | else-eq w ↦
          let other : same_key (key_of (avp_view a)) c.args.row.now.key ≡ false = search rules in
          let after = keyed_after c.args.row.now.key c.args.avps.now c.loop-avp.avp-index a c.loop-avp-test.true is other in
          rw w.left-is (sym (ap first_of (ap (drop c.loop-avp.left) after)) ∙ c.loop-avp.invariant)
    ]
