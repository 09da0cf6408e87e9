use Rattle.std.proofs.Common.{◌≡◌, ◌-◌, ◌≤◌, length}
use Rattle.std.specs.Io.{StartsWith}
use Rattle.std.specs.Io.KnownBytes.{Keeps, prepend_known}
use Rattle.peer_lines.proofs.sealed.reading.read_up_to.Given as goal

abbrev pub invariant-loop-begun : goal.invariant-loop-begun
invariant-loop-begun g l = record {
  within : length l.begun.items ≤ l.wanted;
  front : StartsWith l.begun.items l.initial.begun.items;
  stream : Keeps (prepend_known l.initial.begun.items (g.R.Read.remaining l.initial.reader)) (prepend_known l.begun.items (g.R.Read.remaining l.reader));
}

abbrev pub decreases-loop-begun : goal.decreases-loop-begun
decreases-loop-begun g l = l.wanted - length l.begun.items
