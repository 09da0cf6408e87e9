-- What is written is not empty.
use Rattle.std.proofs.Common.{◌≡◌, []}
use Rattle.dia_codec.specs.Fields.{MessageValue}
use Rattle.dia_codec.specs.Written.{written_header, written_spelling}

-- a message begins with its version
pub written_some : (m : MessageValue) → written_spelling m ≡ [] → ⊥
unfolding written_spelling written_header
written_some m e = absurd (cc)
