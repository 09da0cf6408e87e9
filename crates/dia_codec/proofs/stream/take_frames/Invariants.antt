use Rattle.std.proofs.Common.{◌≡◌, None, length}
use Rattle.std.specs.List.{AllByRecursion}
use Rattle.dia_codec.specs.Spelling.{IsFrame}
use Rattle.dia_codec.specs.Stream.{frame_bytes, stream_of}
use Rattle.dia_codec.proofs.stream.take_frames.Given as goal

abbrev pub invariant-loop-frame : goal.invariant-loop-frame
invariant-loop-frame l = record {
  whole : stream_of (frame_bytes l.fn.frames.items) l.fn.assembler.bytes ≡ stream_of (frame_bytes l.frames.items) l.assembler.bytes;
  each : AllByRecursion IsFrame (frame_bytes l.frames.items);
  sound : l.assembler.fault ≡ None;
}

abbrev pub decreases-loop-frame : goal.decreases-loop-frame
decreases-loop-frame l = length l.assembler.bytes
