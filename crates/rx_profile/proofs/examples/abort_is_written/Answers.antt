use Rattle.std.proofs.Common.{refl}
use Rattle.dia_codec.specs.Written.{three_bytes, word_bytes, written_avp, written_header, written_spelling}
use Rattle.rx_profile.specs.Aborts.{asr_avps}
use Rattle.rx_profile.proofs.examples.abort_is_written.Goals as goal

pub returns : goal.returns
unfolding written_spelling written_header written_avp word_bytes three_bytes asr_avps
returns c = λ address. refl
