use Rattle.std.proofs.Common.{◌≡◌}
use Rattle.std.specs.List.{filter_map}
use Rattle.indexed_state.specs.Fields.{af_field}
use Rattle.indexed_state.proofs.calls.fields_of.Given as goal

-- the fields that the facts so far give
abbrev pub invariant-loop-fact : goal.invariant-loop-fact
invariant-loop-fact l = l.fields.items ≡ filter_map af_field l.yielded
