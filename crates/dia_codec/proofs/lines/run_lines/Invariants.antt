use Rattle.std.proofs.Common.{◌≡◌, ◌≤◌, ◌+◌, ◌-◌, ◌^◌, min}
use Rattle.dia_codec.proofs.lines.run_lines.Given as goal

-- no call has failed since the script began, and each turn has read once
abbrev pub invariant-loop-byte : goal.invariant-loop-byte
invariant-loop-byte g l = record {
  most : l.reader.calls ≤ l.fn.reader.calls + (l._turn + 1);
  calls : min (l.fn.reader.calls + (l._turn + 1)) (2 ^ 64 - 1) ≤ l.reader.calls;
  read : l.reader.failed ≡ l.fn.reader.failed;
  written : l.writer.failed ≡ l.fn.writer.failed;
}

abbrev pub invariant-loop-turn : goal.invariant-loop-turn
invariant-loop-turn g l = record {
  most : l.reader.calls ≤ l.fn.reader.calls + l._turn;
  calls : min (l.fn.reader.calls + l._turn) (2 ^ 64 - 1) ≤ l.reader.calls;
  read : l.reader.failed ≡ l.fn.reader.failed;
  written : l.writer.failed ≡ l.fn.writer.failed;
}
