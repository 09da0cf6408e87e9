use Rattle.std.proofs.Common.{◌≡◌, Some, map, take}
use Rattle.toml.specs.View.{view}
use Rattle.op_tables.specs.Values.{all_of, filter}
use Rattle.op_tables.proofs.texts.filters.Given as goal

-- the filters are those of the values so far
abbrev pub invariant-loop-value : goal.invariant-loop-value
invariant-loop-value l = all_of filter (map view (take l.value-index l.values)) ≡ Some l.filters.items
