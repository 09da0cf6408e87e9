use Rattle.dia_codec.proofs.Frames.{one_split, one_end}
use Rattle.dia_codec.proofs.stream.one_cut.Goals as goal

pub returns : goal.returns
returns c = record {
  frames = λ stream frames others rest last one other. (one_split stream frames others rest last one other).0;
  rest = λ stream frames others rest last one other. (one_split stream frames others rest last one other).1;
  cut_frames = λ stream frames others end last one other. (one_end stream frames others end last one other).0;
  end = λ stream frames others end last one other. (one_end stream frames others end last one other).1;
}
