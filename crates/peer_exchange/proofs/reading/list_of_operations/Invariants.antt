use Rattle.std.proofs.Common.{◌≡◌, ◌-◌, ◌≤◌, ◌++◌, length}
use Rattle.std.specs.List.{flat_map}
use Rattle.fact_codec.specs.Reading.{many}
use Rattle.fact_codec.proofs.Loops.{with_front}
use Rattle.peer_exchange.specs.Spelling.{operation_bytes}
use Rattle.peer_exchange.specs.Reading.{operation}
use Rattle.peer_exchange.proofs.reading.list_of_operations.Given as goal

abbrev pub invariant-loop : goal.invariant-loop
invariant-loop l = record {
  read : with_front l.items.items (many (operation l.version) (l.count - l.counter) l.rest) ≡ many (operation l.version) l.count l.bytes;
  spelled : l.bytes ≡ flat_map operation_bytes l.items.items ++ l.rest;
  counted : length l.items.items ≡ l.counter;
  within : l.counter ≤ l.count;
}
