use Rattle.std.proofs.Common.{◌≡◌, ℕ, ◌≤◌, ◌++◌, ◌∷◌, [], true, false, length, take, ap, sym, subst, ◌∙◌, arith, rules, get_or}
use Rattle.std.specs.Prelude.{IfSome}
use Rattle.std.proofs.lemmas.List.{take_all, map-append, length-map}
use Rattle.std.proofs.lemmas.Result.{err_from_is_err_and}
use Rattle.dia_codec.specs.Fields.{key_of}
use Rattle.dia_codec.specs.Spelling.{avp_view, avp_views}
use Rattle.dia_codec.proofs.Lengths.{no_avp, same_avp}
use Rattle.dia_base.specs.Rows.{is_too_often, same_key, values_of, repeated}
use Rattle.dia_base.proofs.Values.{values_keyed, values_other}
use Rattle.dia_base.proofs.Refusals.{refusal_among_push, row_refused_at, row_too_often, row_judged, within_limit}
use Rattle.dia_base.proofs.rows.read_each.Goals as goal
use Rattle.dia_base.proofs.rows.read_each.Goals.{then-eq+in_ok-from_value+in_ok-push, else-eq}

pub returns-then-is_too_often-clause-refused : goal.returns-then-is_too_often-clause-refused
returns-then-is_too_often-clause-refused g c =
    let above : is_too_often c.args.most (length (values_of c.args.key (avp_views c.args.avps.now))) ≡ true = search rules in
    row_too_often (repeated c.args.key c.args.most g.V.FromValue.kind) (avp_views c.args.avps.now) above ∙ search rules

pub returns-in_err-from_value-clause-refused : goal.returns-in_err-from_value-clause-refused
returns-in_err-from_value-clause-refused g c =
    let a = get_or c.args.avps.now c.loop-avp.avp-index no_avp in
    let is = same_avp c.args.avps.now c.loop-avp.avp-index c.loop-avp-test.true in
    let p = err_from_is_err_and c.from_residual.result c.from_residual.ensures.1 in
    let within : is_too_often c.args.most (length (values_of c.args.key (avp_views c.args.avps.now))) ≡ false = search rules in
    let keyed : same_key (key_of (avp_view a)) c.args.key ≡ true = search rules in
    rw (p.1, p.2) (row_refused_at (repeated c.args.key c.args.most g.V.FromValue.kind) c.args.avps.now c.loop-avp.avp-index a c.in_err-from_value.field-0.0 (omega arith) within c.loop-avp-test.true is keyed c.loop-avp.invariant.granted (rw c.text.ensures at c.in_err-from_value.ensures.refused))

pub loop-avp-preserved : goal.loop-avp-preserved
loop-avp-preserved g c =
    let a = get_or c.args.avps.now c.loop-avp.avp-index no_avp in
    let is = same_avp c.args.avps.now c.loop-avp.avp-index c.loop-avp-test.true in
    elim c.if-eq.branch [
      | then-eq+in_ok-from_value+in_ok-push w ↦
          let keyed : same_key (key_of (avp_view a)) c.args.key ≡ true = search rules in
          let more = values_keyed c.args.key c.args.avps.now c.loop-avp.avp-index a c.loop-avp-test.true is keyed in
          record {
            granted = rw more (refusal_among_push g.V.FromValue.kind _ a.value.now c.loop-avp.invariant.granted (search rules));
            read = rw (w.each-is, w.in_ok-push.ensures.items, w.in_ok-from_value.ensures.read, w.text.ensures, more, map-append) (ap (λ front. front ++ g.V.FromValue.of_value a.value.now ∷ []) c.loop-avp.invariant.read);
          }
      | else-eq w ↦
          let other : same_key (key_of (avp_view a)) c.args.key ≡ false = search rules in
          let same = values_other c.args.key c.args.avps.now c.loop-avp.avp-index a c.loop-avp-test.true is other in
          record { granted = rw same c.loop-avp.invariant.granted; read = rw (w.each-is, same) c.loop-avp.invariant.read }
    ]

pub returns-clause-accepted : goal.returns-clause-accepted
returns-clause-accepted g c =
    let within : is_too_often c.args.most (length (values_of c.args.key (avp_views c.args.avps.now))) ≡ false = search rules in
    let all : take c.loop-avp.avp-index c.args.avps.now ≡ c.args.avps.now = search (rules, take_all) in
    row_judged (repeated c.args.key c.args.most g.V.FromValue.kind) (avp_views c.args.avps.now) (omega arith) within ∙ (rw all at c.loop-avp.invariant.granted)

pub returns-clause-read : goal.returns-clause-read
returns-clause-read g c =
    let all : take c.loop-avp.avp-index c.args.avps.now ≡ c.args.avps.now = search (rules, take_all) in
    rw all at c.loop-avp.invariant.read

pub returns-clause-within : goal.returns-clause-within
returns-clause-within g c =
    let within : is_too_often c.args.most (length (values_of c.args.key (avp_views c.args.avps.now))) ≡ false = search rules in
    let all : take c.loop-avp.avp-index c.args.avps.now ≡ c.args.avps.now = search (rules, take_all) in
    let values = values_of c.args.key (avp_views c.args.avps.now) in
    let long : length c.loop-avp.each.items ≡ length values = ap length (rw all at c.loop-avp.invariant.read) ∙ length-map values g.V.FromValue.of_value in
    subst (λ (n : ℕ). IfSome c.args.most (λ (most : ℕ). n ≤ most)) (sym long) (within_limit c.args.most (length values) within)
