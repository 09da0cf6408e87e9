use Rattle.std.proofs.Common.{◌≡◌, ◌-◌, ◌≤◌, length, take, None}
use Rattle.peer_lines.specs.Writing.{WritesRecords}
use Rattle.peer_lines.proofs.sealed.writing.SealedWriterWrite.write_all.Given as goal

-- what was taken was written, as records
abbrev pub invariant-loop-taken : goal.invariant-loop-taken
invariant-loop-taken g l = record {
  within : l.taken ≤ length l.buf;
  written : WritesRecords (g.W.Write.contents l.initial.self.writer) (g.W.Write.contents l.self.writer) l.initial.self.course l.self.course (take l.taken l.buf);
  sound : l.self.fault ≡ None;
}

abbrev pub decreases-loop-taken : goal.decreases-loop-taken
decreases-loop-taken g l = length l.buf - l.taken
