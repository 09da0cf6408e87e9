use Rattle.std.proofs.Common.{◌≡◌, ◌-◌, ◌≤◌, ◌++◌, length, map}
use Rattle.std.specs.List.{flat_map}
use Rattle.af_records.specs.RecordFacts as af_facts
use Rattle.fact_codec.specs.Spelling.{fact_bytes}
use Rattle.fact_codec.specs.Reading.{many}
use Rattle.fact_codec.specs.Said.{af_fact}
use Rattle.fact_codec.proofs.Loops.{with_front}
use Rattle.fact_codec.proofs.facts.list_of_af_facts.Given as goal

abbrev pub invariant-loop : goal.invariant-loop
invariant-loop l = record {
  read : with_front (map af_facts.fact_of l.items.items) (many (af_fact l.version l.tag) (l.count - l.counter) l.rest) ≡ many (af_fact l.version l.tag) l.count l.bytes;
  spelled : l.bytes ≡ flat_map fact_bytes (map af_facts.fact_of l.items.items) ++ l.rest;
  counted : length (map af_facts.fact_of l.items.items) ≡ l.counter;
  within : l.counter ≤ l.count;
}
