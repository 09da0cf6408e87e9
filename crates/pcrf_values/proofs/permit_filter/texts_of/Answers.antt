use Rattle.std.proofs.Common.{rules, ◌≡◌, ◌∙◌, ap}
use Rattle.pcrf_values.specs.Texts.{one_to}
use Rattle.pcrf_values.proofs.Ranges.{one_to_fits}
use Rattle.pcrf_values.proofs.permit_filter.texts_of.Goals as goal

pub unreachable-requires : goal.unreachable-requires
unreachable-requires c =
    let whole : c.loop-filter.texts.items ≡ c.as_slice-filter-items.result.now = search rules in
    c.in_default.not-Some c.as_slice-filter-items.result.now (c.of.ensures ∙ ap (one_to 2) whole ∙ one_to_fits 2 c.as_slice-filter-items.result.now (search rules) (search rules))
