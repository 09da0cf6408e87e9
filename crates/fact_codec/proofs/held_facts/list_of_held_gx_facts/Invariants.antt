use Rattle.std.proofs.Common.{◌≡◌, ◌-◌, ◌≤◌, ◌++◌, length, map}
use Rattle.std.specs.List.{flat_map}
use Rattle.gx_records.specs.GxFacts as gx_facts
use Rattle.fact_codec.specs.Spelling.{held_fact_bytes}
use Rattle.fact_codec.specs.Reading.{many}
use Rattle.fact_codec.specs.Said.{held_gx_fact}
use Rattle.fact_codec.proofs.Loops.{with_front}
use Rattle.fact_codec.proofs.held_facts.list_of_held_gx_facts.Given as goal

abbrev pub invariant-loop : goal.invariant-loop
invariant-loop l = record {
  read : with_front (map gx_facts.fact_of l.items.items) (many (held_gx_fact l.version) (l.count - l.counter) l.rest) ≡ many (held_gx_fact l.version) l.count l.bytes;
  spelled : l.bytes ≡ flat_map held_fact_bytes (map gx_facts.fact_of l.items.items) ++ l.rest;
  counted : length (map gx_facts.fact_of l.items.items) ≡ l.counter;
  within : l.counter ≤ l.count;
}
