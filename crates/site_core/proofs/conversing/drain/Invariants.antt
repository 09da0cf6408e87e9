use Rattle.std.proofs.Common.{◌≡◌, None, length}
use Rattle.site_core.specs.Conversing.{Went}
use Rattle.site_core.proofs.conversing.drain.Given as goal

abbrev pub invariant-loop-frame : goal.invariant-loop-frame
invariant-loop-frame g l = record {
  went : Went l.initial.site l.initial.assembler.bytes (g.W.Write.contents l.initial.writer.inner) l.assembler.bytes l.site (g.W.Write.contents l.writer.inner);
  sound : l.assembler.fault ≡ None;
}

abbrev pub decreases-loop-frame : goal.decreases-loop-frame
decreases-loop-frame g l = length l.assembler.bytes
