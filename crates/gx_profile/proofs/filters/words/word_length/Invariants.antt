use Rattle.std.proofs.Common.{◌≡◌, ◌<◌, ℕ, false, get_or}
use Rattle.gx_profile.specs.Words.{is_space}
use Rattle.gx_profile.proofs.filters.words.word_length.Given as goal

-- none so far is a space
abbrev pub invariant-loop-length : goal.invariant-loop-length
invariant-loop-length l = (k : ℕ) → k < l.length → is_space (get_or l.text k 0) ≡ false
