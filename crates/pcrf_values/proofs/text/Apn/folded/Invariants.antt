use Rattle.std.proofs.Common.{◌≡◌, take}
use Rattle.pcrf_values.specs.Texts.{small_letters}
use Rattle.pcrf_values.proofs.text.Apn.folded.Given as goal

-- the letters are the folded bytes so far
abbrev pub invariant-loop-byte : goal.invariant-loop-byte
invariant-loop-byte l = l.letters.items ≡ small_letters (take l.byte-index l.bytes)
