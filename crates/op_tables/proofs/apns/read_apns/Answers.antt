use Rattle.std.proofs.Common.{◌≡◌, List, ℕ, None, map, take, refl, ap, sym, ◌∙◌}
use Rattle.std.proofs.lemmas.List.{take_all}
use Rattle.std.specs.BTreeMap.{insert_entry}
use Rattle.pcrf_values.specs.Orders.{text_cmp}
use Rattle.toml.specs.View.{view}
use Rattle.pcrf_model.specs.Tables.{ApnRow}
use Rattle.op_tables.specs.declared.place.TableKey.TheVariants as key
use Rattle.op_tables.specs.Judgement.{apn_fault}
use Rattle.op_tables.specs.Meaning.{apns_of, apn_name, row_apn}
use Rattle.op_tables.proofs.Faults.{before_is, goes_on, stops, is_done}
use Rattle.op_tables.proofs.Maps.{apn_row, apn_push}
use Rattle.op_tables.proofs.apns.read_apns.Goals as goal

pub loop-above-init : goal.loop-above-init
unfolding apns_of
loop-above-init c = record { read = c.new-apns.ensures.empty; judged = refl }

pub returns-in-Err-clause-refused : goal.returns-in-Err-clause-refused
returns-in-Err-clause-refused c =
    let row = c.index-rows-above.result in
    let above = map view (take c.loop-above.above c.args.rows.now) in
    let here = rw (apn_row c.loop-above.apns.entries above (view row) c.loop-above.invariant.read) at c.in-Err.ensures.refused in
    rw (c.within.ensures, c.row.ensures, c.loop-above.invariant.judged) (stops view key.Apn apn_fault c.args.rows.now c.loop-above.above row _ c.loop-above-test.true c.index-rows-above.is here)

pub loop-above-preserved : goal.loop-above-preserved
loop-above-preserved c =
    let row = c.index-rows-above.result in
    let above = map view (take c.loop-above.above c.args.rows.now) in
    let here : apn_fault above (view row) ≡ None = sym (apn_row c.loop-above.apns.entries above (view row) c.loop-above.invariant.read) ∙ c.in_default.ensures.judged in
    record {
      read = c.in_default.ensures.added
          ∙ ap (λ (es : List (List ℕ × ApnRow)). insert_entry text_cmp es (apn_name (view row)) (row_apn (view row))) c.loop-above.invariant.read
          ∙ sym (apn_push above (view row))
          ∙ ap apns_of (sym (before_is view c.args.rows.now c.loop-above.above row c.loop-above-test.true c.index-rows-above.is));
      judged = c.loop-above.invariant.judged ∙ goes_on view key.Apn apn_fault c.args.rows.now c.loop-above.above row c.loop-above-test.true c.index-rows-above.is here;
    }

pub returns-clause-judged : goal.returns-clause-judged
returns-clause-judged c =
    c.loop-above.invariant.judged ∙ is_done view key.Apn apn_fault c.args.rows.now c.loop-above.above c.loop-above-test.false

pub returns-clause-read : goal.returns-clause-read
returns-clause-read c = c.loop-above.invariant.read ∙ ap (λ vs. apns_of (map view vs)) (take_all _ _ c.loop-above-test.false)
