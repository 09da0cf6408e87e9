use Rattle.std.proofs.Common.{rules}
use Rattle.dia_codec.proofs.Parts.{Appends-part}
use Rattle.dia_codec.proofs.counted.CountedWrite.write_all.Goals as goal

pub loop-taken-preserved : goal.loop-taken-preserved
loop-taken-preserved g c = record {
  within = search rules;
  so_far = Appends-part _ _ _ _ _ _ c.loop-taken.invariant.so_far c.in_ok-taken.ensures.bytes;
  kept = search rules;
  calls = search rules;
  ended = search rules;
}
