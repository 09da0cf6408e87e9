-- AVPs behind those of a message that is written.
use Rattle.std.specs.Prelude.{◌≡◌, ℕ, ◌+◌, ◌≤◌, Bool, ◌&&◌, nat_le, if◌then◌else◌, List, ◌++◌, length, take, drop}
use Rattle.std.specs.List.{flat_map}
use Rattle.dia_codec.specs.Fields.{AvpValue, MessageValue}
use Rattle.dia_codec.specs.Limits.{length_field_end, longest_message}
use Rattle.dia_codec.specs.Written.{three_bytes, written_avp, written_len, written_spelling}

-- these bytes behind those of a message, whose length field, of its second to fourth byte, then counts both (RFC 6733, 3)
abbrev pub with_more : List ℕ → List ℕ → List ℕ
with_more bytes more = take 1 bytes ++ (three_bytes (length bytes + length more) ++ (drop length_field_end bytes ++ more))

-- there is a length field, and a message has room for both
abbrev pub has_room : List ℕ → List ℕ → Bool
has_room bytes more = nat_le length_field_end (length bytes) && nat_le (length bytes + length more) longest_message

-- these AVPs behind those of a message, where it has room for them; else it stays as it is
unfoldable pub behind : List AvpValue → List ℕ → List ℕ
behind avps bytes = if has_room bytes (flat_map written_avp avps) then with_more bytes (flat_map written_avp avps) else bytes

-- a message with further AVPs behind its own
abbrev pub with_avps : List AvpValue → MessageValue → MessageValue
with_avps avps m = record { header = m.header; avps = m.avps ++ avps }

-- the bytes then are those of the message that has both
abbrev pub SpellsBoth : Type 0
SpellsBoth = (m : MessageValue) (avps : List AvpValue) → written_len (with_avps avps m) ≤ longest_message → behind avps (written_spelling m) ≡ written_spelling (with_avps avps m)
