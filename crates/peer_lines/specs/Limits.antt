-- Sizes of records: this project's own.
use Rattle.std.specs.Prelude.{ℕ, ◌-◌, ◌^◌}
use Rattle.peer_lines.specs.declared.sealed.course.TheConstants as course
use Rattle.peer_lines.specs.declared.sealed.hmac.TheConstants as hmac

-- how many bytes a code has
abbrev pub code_bytes : ℕ
code_bytes = hmac.CODE_BYTES

-- how many bytes of a record say its length
abbrev pub head_bytes : ℕ
head_bytes = course.HEAD_BYTES

-- how many bytes that were written a record has at most
abbrev pub most_piece : ℕ
most_piece = course.MOST_PIECE

-- the position that no record has, so that positions can be counted
abbrev pub last_position : ℕ
last_position = 2 ^ 64 - 1
