use Rattle.std.proofs.Common.{◌≡◌, List, ℕ, None, map, take, refl, ap, sym, ◌∙◌, nat_cmp}
use Rattle.std.proofs.lemmas.List.{take_all}
use Rattle.std.specs.BTreeMap.{insert_entry}
use Rattle.toml.specs.View.{view}
use Rattle.pcrf_model.specs.Tables.{Class}
use Rattle.op_tables.specs.declared.place.TableKey.TheVariants as key
use Rattle.op_tables.specs.Judgement.{media_fault}
use Rattle.op_tables.specs.Meaning.{media_of, media_type, row_class}
use Rattle.op_tables.proofs.Faults.{before_is, goes_on, stops, is_done}
use Rattle.op_tables.proofs.Maps.{media_row, media_push}
use Rattle.op_tables.proofs.media.read_media.Goals as goal

pub loop-above-init : goal.loop-above-init
unfolding media_of
loop-above-init c = record { read = c.new-media.ensures.empty; judged = refl }

pub returns-in-Err-clause-refused : goal.returns-in-Err-clause-refused
returns-in-Err-clause-refused c =
    let row = c.index-rows-above.result in
    let above = map view (take c.loop-above.above c.args.rows.now) in
    let here = rw (media_row c.loop-above.media.entries above (view row) c.loop-above.invariant.read) at c.in-Err.ensures.refused in
    rw (c.within.ensures, c.row.ensures, c.loop-above.invariant.judged) (stops view key.Media media_fault c.args.rows.now c.loop-above.above row _ c.loop-above-test.true c.index-rows-above.is here)

pub loop-above-preserved : goal.loop-above-preserved
loop-above-preserved c =
    let row = c.index-rows-above.result in
    let above = map view (take c.loop-above.above c.args.rows.now) in
    let here : media_fault above (view row) ≡ None = sym (media_row c.loop-above.media.entries above (view row) c.loop-above.invariant.read) ∙ c.in_default.ensures.judged in
    record {
      read = c.in_default.ensures.added
          ∙ ap (λ (es : List (ℕ × Class)). insert_entry nat_cmp es (media_type (view row)) (row_class (view row))) c.loop-above.invariant.read
          ∙ sym (media_push above (view row))
          ∙ ap media_of (sym (before_is view c.args.rows.now c.loop-above.above row c.loop-above-test.true c.index-rows-above.is));
      judged = c.loop-above.invariant.judged ∙ goes_on view key.Media media_fault c.args.rows.now c.loop-above.above row c.loop-above-test.true c.index-rows-above.is here;
    }

pub returns-clause-judged : goal.returns-clause-judged
returns-clause-judged c =
    c.loop-above.invariant.judged ∙ is_done view key.Media media_fault c.args.rows.now c.loop-above.above c.loop-above-test.false

pub returns-clause-read : goal.returns-clause-read
returns-clause-read c = c.loop-above.invariant.read ∙ ap (λ vs. media_of (map view vs)) (take_all _ _ c.loop-above-test.false)
