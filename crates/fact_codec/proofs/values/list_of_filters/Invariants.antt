use Rattle.std.proofs.Common.{◌≡◌, ◌-◌, ◌≤◌, ◌++◌, length}
use Rattle.std.specs.List.{flat_map}
use Rattle.pcrf_values.specs.Limits.{filter_limit}
use Rattle.fact_codec.specs.Spelling.{text_bytes}
use Rattle.fact_codec.specs.Reading.{many}
use Rattle.fact_codec.specs.Said.{text}
use Rattle.fact_codec.proofs.Loops.{with_front}
use Rattle.fact_codec.proofs.values.list_of_filters.Given as goal

abbrev pub invariant-loop : goal.invariant-loop
invariant-loop l = record {
  read : with_front l.items.items (many (text filter_limit) (l.count - l.counter) l.rest) ≡ many (text filter_limit) l.count l.bytes;
  spelled : l.bytes ≡ flat_map text_bytes l.items.items ++ l.rest;
  counted : length l.items.items ≡ l.counter;
  within : l.counter ≤ l.count;
}
