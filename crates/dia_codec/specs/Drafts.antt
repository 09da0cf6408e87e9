-- What a message is while it is written from front to back: its AVPs as they are written, and groups that are still open.
use Rattle.std.specs.Prelude.{◌≡◌, ℕ, ◌+◌, ◌-◌, Bool, false, List, [], ◌∷◌, ◌++◌, length, take, drop, is_some, if◌then◌else◌}
use Rattle.std.specs.List.{flat_map}
use Rattle.dia_codec.specs.declared.message.AvpKey.{AvpKey}
use Rattle.dia_codec.specs.Fields.{AvpValue}
use Rattle.dia_codec.specs.Limits.{avp_header_bytes, vendor_avp_header_bytes}
use Rattle.dia_codec.specs.Written.{avp_flag_byte, word_bytes, three_bytes, vendor_bytes, written_avp}

-- an AVP of this name, without the P bit
abbrev pub keyed_avp : AvpKey → Bool → List ℕ → AvpValue
keyed_avp key mandatory value = record { code = key.code; vendor = key.vendor; mandatory = mandatory; protected = false; value = value }

-- AVPs one after another, each with its padding
abbrev pub written_avps : List AvpValue → List ℕ
written_avps avps = flat_map written_avp avps

-- how many bytes stand before the value of an AVP of this name
abbrev pub head_len : AvpKey → ℕ
head_len key = if is_some key.vendor then vendor_avp_header_bytes else avp_header_bytes

-- the bytes of an AVP before its value, with the last three bytes of this number as its length
unfoldable pub written_head : AvpKey → Bool → ℕ → List ℕ
written_head key mandatory n = word_bytes key.code ++ avp_flag_byte (keyed_avp key mandatory []) ∷ [] ++ three_bytes n
    ++ vendor_bytes key.vendor

-- the bytes with the length of an AVP that begins at this place and ends at the end
unfoldable pub closed_at : ℕ → List ℕ → List ℕ
closed_at at bytes = take (at + 5) bytes ++ three_bytes (length bytes - at) ++ drop (at + 8) bytes

-- ---- what a step of writing does to the bytes

-- these AVPs are added, as they are written
pub record Adds (old new : List ℕ) (avps : List AvpValue) : Type 0 where
  pub bytes : new ≡ old ++ written_avps avps

-- a group of this name is begun at this place
pub record Opens (key : AvpKey) (mandatory : Bool) (old new : List ℕ) (at : ℕ) : Type 0 where
  pub head : new ≡ old ++ written_head key mandatory 0
  pub place : at ≡ length old

-- the group that was begun at this place is ended
pub record Closes (at : ℕ) (old new : List ℕ) : Type 0 where
  pub bytes : new ≡ closed_at at old

-- a group of these AVPs
abbrev pub keyed_group : AvpKey → Bool → List AvpValue → AvpValue
keyed_group key mandatory avps = keyed_avp key mandatory (written_avps avps)
