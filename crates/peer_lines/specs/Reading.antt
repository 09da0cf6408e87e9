-- What is read on a sealed link: the pieces of records whose codes are right, each at its position, up to the first that isn't.
use Rattle.std.specs.Prelude.{◌≡◌, ℕ, zero, suc, ◌+◌, ◌*◌, ◌&&◌, Bool, nat_lt, nat_le, List, [], ◌∷◌, ◌++◌, length, take, drop, slice_index, Option, Some, None, if◌then◌else◌}
use Rattle.peer_lines.specs.Hmac.{same_bytes}
use Rattle.peer_lines.specs.Limits.{code_bytes, head_bytes, last_position, most_piece}
use Rattle.peer_lines.specs.Records.{code_of, next}
use Rattle.peer_lines.specs.declared.sealed.course.Course.{Course}

-- the length that the first two bytes say
abbrev pub said_length : List ℕ → ℕ
said_length bytes = 256 * slice_index bytes 0 + slice_index bytes 1

-- a piece may have so many bytes
abbrev pub is_length : ℕ → Bool
is_length n = nat_lt 0 n && nat_le n most_piece

-- how many bytes a record with a piece of so many has
abbrev pub record_bytes : ℕ → ℕ
record_bytes n = head_bytes + n + code_bytes

-- the piece of the record at the front
abbrev pub piece_at : List ℕ → List ℕ
piece_at bytes = take (said_length bytes) (drop head_bytes bytes)

-- its code
abbrev pub code_at : List ℕ → List ℕ
code_at bytes = take code_bytes (drop (head_bytes + said_length bytes) bytes)

-- a whole record is at the front, and its code is that of its piece at this position
unfoldable pub is_right : Course → List ℕ → Bool
is_right c bytes =
    nat_lt c.position last_position && is_length (said_length bytes) && nat_le (record_bytes (said_length bytes)) (length bytes)
    && same_bytes (code_at bytes) (code_of c (piece_at bytes))

-- what is read, in so many records at most
unfoldable pub opened_within : ℕ → Course → List ℕ → List ℕ
opened_within zero c bytes = []
opened_within (suc turns) c bytes =
    if is_right c bytes then piece_at bytes ++ opened_within turns (next c) (drop (record_bytes (said_length bytes)) bytes) else []

-- what is read of a stream
abbrev pub opened : Course → List ℕ → List ℕ
opened c bytes = opened_within (length bytes) c bytes
