use Rattle.std.proofs.Common.{◌≡◌, ◌+◌, ◌++◌, ◌∷◌, ℕ, List, true, false, rules, drop, ap, sym, ◌∙◌, get_or}
use Rattle.dia_codec.specs.Fields.{key_of}
use Rattle.dia_codec.specs.Spelling.{avp_view, avp_views}
use Rattle.dia_codec.proofs.Lengths.{no_avp, same_avp}
use Rattle.dia_base.specs.Rows.{same_key, values_of, first_of}
use Rattle.dia_base.proofs.Values.{values_around, values_other, find_keyed, find_other}
use Rattle.dia_base.proofs.rows.first_with.Goals as goal

pub returns-then-eq-clause-avp : goal.returns-then-eq-clause-avp
returns-then-eq-clause-avp c =
    let a = get_or c.args.avps.now c.loop-avp.avp-index no_avp in
    let is = same_avp c.args.avps.now c.loop-avp.avp-index c.loop-avp-test.true in
    let keyed : same_key (key_of (avp_view a)) c.args.key ≡ true = search rules in
    sym (find_keyed c.args.key c.args.avps.now c.loop-avp.avp-index a c.loop-avp-test.true is keyed c.loop-avp.invariant.none)

pub returns-then-eq-clause-value : goal.returns-then-eq-clause-value
returns-then-eq-clause-value c =
    let a = get_or c.args.avps.now c.loop-avp.avp-index no_avp in
    let is = same_avp c.args.avps.now c.loop-avp.avp-index c.loop-avp-test.true in
    let keyed : same_key (key_of (avp_view a)) c.args.key ≡ true = search rules in
    let behind = values_of c.args.key (avp_views (drop (c.loop-avp.avp-index + 1) c.args.avps.now)) in
    let around = values_around c.args.key c.args.avps.now c.loop-avp.avp-index a c.loop-avp-test.true is keyed in
    sym (ap first_of (around ∙ ap (λ (front : List (List ℕ)). front ++ (a.value.now ∷ behind)) c.loop-avp.invariant.empty))

pub loop-avp-preserved : goal.loop-avp-preserved
loop-avp-preserved c =
    let a = get_or c.args.avps.now c.loop-avp.avp-index no_avp in
    let is = same_avp c.args.avps.now c.loop-avp.avp-index c.loop-avp-test.true in
    let other : same_key (key_of (avp_view a)) c.args.key ≡ false = search rules in
    record {
      none = find_other c.args.key c.args.avps.now c.loop-avp.avp-index a c.loop-avp-test.true is other c.loop-avp.invariant.none;
      empty = values_other c.args.key c.args.avps.now c.loop-avp.avp-index a c.loop-avp-test.true is other ∙ c.loop-avp.invariant.empty;
    }
