-- The values of a message, and the numbers and flags at their places (RFC 6733, sections 3 and 4.1).
use Rattle.std.specs.Prelude.{ℕ, ◌+◌, ◌-◌, ◌%◌, Bool, List, [], ◌∷◌, length, get_or}
use Rattle.std.specs.Prelude.{Option, Some, None, bit_and, not, ◌==◌, if◌then◌else◌}
use Rattle.std.specs.Int.{w32, from_be_bytes}
use Rattle.dia_codec.specs.declared.message.Flags.{Flags}
use Rattle.dia_codec.specs.declared.message.Header.{Header}
use Rattle.dia_codec.specs.declared.message.AvpKey.{AvpKey}
use Rattle.dia_codec.specs.Limits.{request_bit, proxiable_bit, error_bit, retransmitted_bit}

-- an AVP without where it lies in memory
pub record AvpValue : Type 0 where
  pub code : ℕ
  pub vendor : Option ℕ
  pub mandatory : Bool
  pub protected : Bool
  pub value : List ℕ

-- a message without where it lies in memory
pub record MessageValue : Type 0 where
  pub header : Header
  pub avps : List AvpValue

-- ---- numbers and flags in bytes

-- the number that four bytes from a place on are, big-endian
unfoldable pub word_at : List ℕ → ℕ → ℕ
word_at bytes at = from_be_bytes w32
    (get_or bytes at 0 ∷ get_or bytes (at + 1) 0 ∷ get_or bytes (at + 2) 0 ∷ get_or bytes (at + 3) 0 ∷ [])

-- the number that three bytes from a place on are, big-endian
unfoldable pub three_at : List ℕ → ℕ → ℕ
three_at bytes at = from_be_bytes w32
    (0 ∷ get_or bytes at 0 ∷ get_or bytes (at + 1) 0 ∷ get_or bytes (at + 2) 0 ∷ [])

-- the length field of a message
abbrev pub message_length : List ℕ → ℕ
message_length bytes = three_at bytes 1

-- the length field of an AVP
abbrev pub avp_length : List ℕ → ℕ
avp_length own = three_at own 5

-- the flags of an AVP
abbrev pub avp_flags : List ℕ → ℕ
avp_flags own = get_or own 4 0

-- a bit of a byte is set
abbrev pub has : ℕ → ℕ → Bool
has byte bit = not (bit_and byte bit == 0)

-- the command flags R, P, E and T
abbrev pub flags_of : ℕ → Flags
flags_of byte = record {
  request = has byte request_bit;
  proxiable = has byte proxiable_bit;
  error = has byte error_bit;
  retransmitted = has byte retransmitted_bit;
}

-- the header of 20 bytes, but for version and length
unfoldable pub header_of : List ℕ → Header
header_of bytes = record {
  flags = flags_of (get_or bytes 4 0);
  command = three_at bytes 5;
  application = word_at bytes 8;
  hop_id = word_at bytes 12;
  end_id = word_at bytes 16;
}

-- how many bytes fill up to a multiple of four
abbrev pub padding : ℕ → ℕ
padding n = (4 - n % 4) % 4

-- ---- what an AVP says

-- the vendor that gave out an AVP's code: vendor 0 counts as none
abbrev pub named_vendor : Option ℕ → Option ℕ
named_vendor None = None
named_vendor (Some vendor) = if vendor == 0 then None else Some vendor

-- what names an AVP
abbrev pub key_of : AvpValue → AvpKey
key_of a = record { code = a.code; vendor = named_vendor a.vendor }

-- the bytes of a value that has four
abbrev pub octets_of : AvpValue → Option (List ℕ)
octets_of a = if length a.value == 4 then Some a.value else None

-- the number that a value of four bytes is, big-endian
abbrev pub number_of : AvpValue → Option ℕ
number_of a = if length a.value == 4 then Some (word_at a.value 0) else None
