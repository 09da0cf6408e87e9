-- Sizes of letters and of their frames, this project's own profile, as numbers of their own: the law `limits_are_the_profiles` says
-- that the code's are these.
use Rattle.std.specs.Prelude.{ℕ}

-- the bytes before a letter, which say how many it has
abbrev pub length_bytes : ℕ
length_bytes = 4

-- the most bytes of a letter: 2 ^ 30
abbrev pub longest_letter : ℕ
longest_letter = 1073741824

-- the version of letters that is written, and the last of those that are read
abbrev pub letter_version : ℕ
letter_version = 3
