-- What is written on a sealed link: records, each of a piece of the bytes that were handed in, with its length before it and its code behind it.
use Rattle.std.specs.Prelude.{ℕ, zero, suc, ◌+◌, ◌*◌, ◌/◌, ◌%◌, nat_lt, List, [], ◌∷◌, ◌++◌, length, take, drop, if◌then◌else◌}
use Rattle.std.specs.Int.{w64, to_be_bytes}
use Rattle.peer_lines.specs.Hmac.{code_under}
use Rattle.peer_lines.specs.Limits.{most_piece}
use Rattle.peer_lines.specs.declared.sealed.course.Course.{Course}
use Rattle.peer_lines.specs.declared.sealed.course.Side.{Side}
use Rattle.peer_lines.specs.declared.sealed.course.Side.TheVariants.{Dialler, Listener}

-- a side as a byte
abbrev pub side_byte : Side → ℕ
side_byte Dialler = 1
side_byte Listener = 2

-- the other one
abbrev pub other_side : Side → Side
other_side Dialler = Listener
other_side Listener = Dialler

-- a position as bytes
unfoldable pub position_bytes : ℕ → List ℕ
position_bytes position = to_be_bytes w64 position

-- what the code of a piece is over: who wrote it, where it stands among the records of that side, and its bytes
abbrev pub coded : Course → List ℕ → List ℕ
coded c piece = (side_byte c.from ∷ []) ++ position_bytes c.position ++ piece

-- the code of a piece under the link's key
abbrev pub code_of : Course → List ℕ → List ℕ
code_of c piece = code_under c.key.block (coded c piece)

-- a length as two bytes, the high one first
abbrev pub length_bytes : ℕ → List ℕ
length_bytes n = n / 256 ∷ n % 256 ∷ []

-- the record of a piece
abbrev pub record_of : Course → List ℕ → List ℕ
record_of c piece = length_bytes (length piece) ++ piece ++ code_of c piece

-- the course behind a record
abbrev pub next : Course → Course
next c = record c { position = c.position + 1 }

-- the course behind so many records
abbrev pub after : Course → ℕ → Course
after c count = record c { position = c.position + count }

-- the records of pieces, one behind the other
abbrev pub records_of : Course → List (List ℕ) → List ℕ
records_of c [] = []
records_of c (piece ∷ pieces) = record_of c piece ++ records_of (next c) pieces
