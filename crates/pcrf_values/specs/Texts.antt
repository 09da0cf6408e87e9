-- Lists within a range of lengths, and texts in small letters.
use Rattle.std.specs.Prelude.{ℕ, Option, Some, None, List, if◌then◌else◌, ◌&&◌, nat_le, length, map}
use Rattle.std.specs.Char.{to_ascii_lowercase}

-- the list, where it has 1 to most members
abbrev pub one_to : {A : Type 0} → ℕ → List A → Option (List A)
one_to most xs = if nat_le 1 (length xs) && nat_le (length xs) most then Some xs else None

-- the bytes with a small letter in the place of each ASCII capital
abbrev pub small_letters : List ℕ → List ℕ
small_letters = map to_ascii_lowercase
