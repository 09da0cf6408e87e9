use Rattle.std.proofs.Common.{◌≡◌, ◌≤◌, ◌+◌, ◌-◌, ◌^◌, min, None, Ok}
use Rattle.dia_codec.specs.Stream.{front_of}
use Rattle.site_core.proofs.StreamReading.{Reads}
use Rattle.site_core.proofs.conversing.answer_all.Given as goal

abbrev pub invariant-loop-turn : goal.invariant-loop-turn
invariant-loop-turn g l = record {
  reads : Reads l.fn.site (g.R.Read.remaining l.fn.reader.inner) (g.W.Write.contents l.fn.writer.inner) (g.R.Read.remaining l.reader.inner) l.assembler.bytes l.site (g.W.Write.contents l.writer.inner);
  none : front_of l.assembler.bytes ≡ Ok None;
  sound : l.assembler.fault ≡ None;
  most : l.reader.calls ≤ l.fn.reader.calls + l._turn;
  turns : min (l.fn.reader.calls + l._turn) (2 ^ 64 - 1) ≤ l.reader.calls;
}
