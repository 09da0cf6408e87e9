use Rattle.std.proofs.Common.{List, Some, map, take, drop, ap, sym, ◌∙◌, ◌+◌}
use Rattle.std.proofs.lemmas.Result.{err_from_is_err_and}
use Rattle.std.specs.Option.{option_and_then}
use Rattle.pcrf_values.specs.Texts.{one_to}
use Rattle.toml.specs.Data.{Data}
use Rattle.toml.specs.View.{view}
use Rattle.pcrf_values.specs.Limits.{filters_limit}
use Rattle.op_tables.specs.Values.{all_of, filter, filters}
use Rattle.op_tables.proofs.Faults.{before_is, around_is, one_bad}
use Rattle.op_tables.proofs.Lists.{all_of-push, one_missing}
use Rattle.op_tables.proofs.texts.filters.Goals as goal

pub loop-value-preserved : goal.loop-value-preserved
loop-value-preserved c =
    ap (all_of filter) (before_is view c.args.values.now c.loop-value.value-index c.value-item.result c.loop-value-test.true c.value-item.is)
    ∙ all_of-push filter (map view (take c.loop-value.value-index c.args.values.now)) c.loop-value.filters.items (view c.value-item.result) c.in_ok-filter.field-0 c.loop-value.invariant c.in_ok-filter.ensures.read
    ∙ ap Some (sym c.in_ok-push.ensures.items)

pub returns-in_err-filter-clause-refused : goal.returns-in_err-filter-clause-refused
returns-in_err-filter-clause-refused c =
    let p = err_from_is_err_and c.from_residual.result c.from_residual.ensures.1 in
    let i = c.loop-value.value-index in
    let vs = c.args.values.now in
    let around = around_is view vs i c.value-item.result c.loop-value-test.true c.value-item.is in
    rw (p.1, p.2) (one_bad c.args.key _ (filter (view c.value-item.result)) (filters filters_limit (map view vs)) c.in_err-filter.ensures.refused
    (λ none. ap (λ (ds : List Data). filters filters_limit ds) around ∙ ap (option_and_then (one_to filters_limit)) (one_missing filter (map view (take i vs)) (view c.value-item.result) (map view (drop (i + 1) vs)) none)))
