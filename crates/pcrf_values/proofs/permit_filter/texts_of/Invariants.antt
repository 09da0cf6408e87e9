use Rattle.std.proofs.Common.{◌≡◌, take}
use Rattle.pcrf_values.proofs.permit_filter.texts_of.Given as goal

-- the texts so far
abbrev pub invariant-loop-filter : goal.invariant-loop-filter
invariant-loop-filter l = l.texts.items ≡ take l.filter-index l.filter-items
