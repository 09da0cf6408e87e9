use Rattle.std.proofs.Common.{◌≡◌, [], ◌∷◌, ◌++◌, List, None, map, take, refl, ap, sym, ◌∙◌}
use Rattle.std.proofs.lemmas.List.{map-append}
use Rattle.toml.specs.View.{view}
use Rattle.pcrf_model.specs.Tables.{OperatorRule}
use Rattle.op_tables.specs.declared.place.TableKey.TheVariants as key
use Rattle.op_tables.specs.Judgement.{rule_fault}
use Rattle.op_tables.specs.Meaning.{rule_of}
use Rattle.op_tables.proofs.Faults.{before_is, goes_on, stops, is_done}
use Rattle.op_tables.proofs.Maps.{rule_row}
use Rattle.op_tables.proofs.apns.read_rules.Goals as goal

pub loop-above-init : goal.loop-above-init
loop-above-init c = record { read = c.new-rules.ensures.items; judged = refl }

pub returns-in-Err-clause-refused : goal.returns-in-Err-clause-refused
returns-in-Err-clause-refused c =
    let row = c.index-rows-above.result in
    let above = map view (take c.loop-above.above c.args.rows.now) in
    let here = rw (rule_row c.loop-above.rules.items above (view row) c.loop-above.invariant.read) at c.in-Err.ensures.refused in
    rw (c.within.ensures, c.row.ensures, c.loop-above.invariant.judged) (stops view key.Rule rule_fault c.args.rows.now c.loop-above.above row _ c.loop-above-test.true c.index-rows-above.is here)

pub loop-above-preserved : goal.loop-above-preserved
loop-above-preserved c =
    let row = c.index-rows-above.result in
    let above = map view (take c.loop-above.above c.args.rows.now) in
    let here : rule_fault above (view row) ≡ None = sym (rule_row c.loop-above.rules.items above (view row) c.loop-above.invariant.read) ∙ c.in_default.ensures.judged in
    record {
      read = c.in_default.ensures.added
          ∙ ap (λ (rs : List OperatorRule). rs ++ rule_of (view row) ∷ []) c.loop-above.invariant.read
          ∙ sym (map-append rule_of above (view row ∷ []))
          ∙ ap (map rule_of) (sym (before_is view c.args.rows.now c.loop-above.above row c.loop-above-test.true c.index-rows-above.is));
      judged = c.loop-above.invariant.judged ∙ goes_on view key.Rule rule_fault c.args.rows.now c.loop-above.above row c.loop-above-test.true c.index-rows-above.is here;
    }

pub returns-clause-judged : goal.returns-clause-judged
returns-clause-judged c =
    c.loop-above.invariant.judged ∙ is_done view key.Rule rule_fault c.args.rows.now c.loop-above.above c.loop-above-test.false
