use Rattle.std.proofs.Common.{◌≡◌, ◌++◌, take}
use Rattle.std.specs.List.{flat_map}
use Rattle.fact_codec.specs.Spelling.{text_bytes}
use Rattle.fact_codec.proofs.put_values.put_filters.Given as goal

abbrev pub invariant-loop-filter : goal.invariant-loop-filter
invariant-loop-filter l = l.out.items ≡ l.initial.out.items ++ flat_map text_bytes (take l.filter-index l.list)
