use Rattle.std.proofs.Common.{◌≡◌, None, take}
use Rattle.dia_codec.specs.Stream.{Splits, end_of, frame_bytes, bytes_of_pieces}
use Rattle.dia_codec.proofs.stream.frames_of.Given as goal

abbrev pub invariant-loop-piece : goal.invariant-loop-piece
invariant-loop-piece l = record {
  splits : Splits (bytes_of_pieces (take l.piece-index l.pieces)) (frame_bytes l.frames.items) l.assembler.bytes;
  end : l.end ≡ end_of l.assembler.bytes;
  sound : l.assembler.fault ≡ None;
}
