use Rattle.std.proofs.Common.{◌≡◌, ◌-◌, ◌≤◌, length, take}
use Rattle.std.specs.Io.KnownBytes.{Appends}
use Rattle.dia_codec.proofs.counted.CountedWrite.write_all.Given as goal

abbrev pub invariant-loop-taken : goal.invariant-loop-taken
invariant-loop-taken g l = record {
  within : l.taken ≤ length l.buf;
  so_far : Appends (g.W.Write.contents l.initial.self.inner) (g.W.Write.contents l.self.inner) (take l.taken l.buf);
  kept : l.self.failed ≡ l.initial.self.failed;
  calls : l.self.calls ≡ l.initial.self.calls;
  ended : l.self.ended ≡ l.initial.self.ended;
}

abbrev pub decreases-loop-taken : goal.decreases-loop-taken
decreases-loop-taken g l = length l.buf - l.taken
