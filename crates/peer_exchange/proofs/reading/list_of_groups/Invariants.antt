use Rattle.std.proofs.Common.{◌≡◌, ◌-◌, ◌≤◌, ◌++◌, length, map}
use Rattle.std.specs.List.{flat_map}
use Rattle.site_join.specs.Groups.{group_of}
use Rattle.peer_exchange.specs.Spelling.{held_group_bytes}
use Rattle.fact_codec.specs.Reading.{many}
use Rattle.peer_exchange.specs.Reading.{held_group}
use Rattle.fact_codec.proofs.Loops.{with_front}
use Rattle.peer_exchange.proofs.reading.list_of_groups.Given as goal

abbrev pub invariant-loop : goal.invariant-loop
invariant-loop l = record {
  read : with_front (map group_of l.items.items) (many (held_group l.version) (l.count - l.counter) l.rest) ≡ many (held_group l.version) l.count l.bytes;
  spelled : l.bytes ≡ flat_map held_group_bytes (map group_of l.items.items) ++ l.rest;
  counted : length (map group_of l.items.items) ≡ l.counter;
  within : l.counter ≤ l.count;
}
