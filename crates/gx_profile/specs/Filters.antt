-- Filters by their parts: IPFilterRules that permit (RFC 6733, 4.3.1), `permit dir proto from src to dst [options]`.
use Rattle.std.specs.Prelude.{◌≡◌, ℕ, Bool, true, false, ◌&&◌, ◌||◌, ◌==◌, nat_lt, nat_le, nat_eq, if◌then◌else◌, List, [], ◌∷◌, ◌++◌, length, codes, Option, Some, None, option_to_list}
use Rattle.std.specs.List.{list_all}
use Rattle.std.specs.Option.{option_map_or}
use Rattle.std.specs.Cmp.Lexicographic.{pointwise}
use Rattle.gx_profile.specs.declared.filters.direction.Direction.{Direction}
use Rattle.gx_profile.specs.declared.filters.direction.Direction.TheVariants.{Uplink, Downlink}
use Rattle.gx_profile.specs.Words.{words_of, text_of}

-- src or dst: an address, and ports where they are given
pub record EndpointValue : Type 0 where
  pub address : List ℕ
  pub ports : Option (List ℕ)

-- the parts of a filter
pub record FilterValue : Type 0 where
  pub direction : Direction
  pub protocol : List ℕ
  pub source : EndpointValue
  pub destination : EndpointValue
  pub options : List (List ℕ)

-- ---- words

-- two words are the same
abbrev pub says : List ℕ → List ℕ → Bool
says word other = pointwise nat_eq word other

-- action: packets pass
abbrev pub permit_word : List ℕ
permit_word = codes "permit"

-- dir: `in` is from the terminal
abbrev pub in_word : List ℕ
in_word = codes "in"

-- dir: `out` is to the terminal
abbrev pub out_word : List ℕ
out_word = codes "out"

abbrev pub from_word : List ℕ
from_word = codes "from"

abbrev pub to_word : List ℕ
to_word = codes "to"

-- dir
abbrev pub direction_word : Direction → List ℕ
direction_word Uplink = in_word
direction_word Downlink = out_word

abbrev pub is_digit : ℕ → Bool
is_digit byte = nat_le 0x30 byte && nat_le byte 0x39

abbrev pub is_small_letter : ℕ → Bool
is_small_letter byte = nat_le 0x61 byte && nat_le byte 0x7A

-- one byte at least, and each one passes
abbrev pub is_of : (ℕ → Bool) → List ℕ → Bool
is_of passes word = nat_lt 0 (length word) && list_all passes word

-- proto: `ip` is any, others are numbers
abbrev pub is_protocol : List ℕ → Bool
is_protocol word = says word (codes "ip") || is_of is_digit word

-- what a number of IPv4 or IPv6 and its mask's width are written in: digits, of base sixteen too, points, colons and a stroke
abbrev pub is_address_byte : ℕ → Bool
is_address_byte byte =
    (is_digit byte || nat_le 0x61 byte && nat_le byte 0x66)
    || ((nat_le 0x41 byte && nat_le byte 0x46) || (nat_le 0x2E byte && nat_le byte 0x2F || byte == 0x3A))

-- `any`, `assigned`, or such a number
abbrev pub is_plain_address : List ℕ → Bool
is_plain_address word = says word (codes "any") || (says word (codes "assigned") || is_of is_address_byte word)

-- an address; `!` before it makes it all others
abbrev pub is_address : List ℕ → Bool
is_address [] = false
is_address (byte ∷ bytes) = if byte == 0x21 then is_plain_address bytes else is_plain_address (byte ∷ bytes)

-- what ports are written in: digits, commas and hyphens
abbrev pub is_port_byte : ℕ → Bool
is_port_byte byte = is_digit byte || nat_le 0x2C byte && nat_le byte 0x2D

-- ports and ranges of ports
abbrev pub is_ports : List ℕ → Bool
is_ports word = is_of is_port_byte word

-- src or dst
abbrev pub is_endpoint : EndpointValue → Bool
is_endpoint e = is_address e.address && option_map_or is_ports e.ports true

-- a printable character of ASCII that is no space
abbrev pub is_visible : ℕ → Bool
is_visible byte = nat_le 0x21 byte && nat_le byte 0x7E

-- one such at least
abbrev pub is_word : List ℕ → Bool
is_word word = is_of is_visible word

-- a word that begins with a small letter, as those of options do
abbrev pub begins_with_letter : List ℕ → Bool
begins_with_letter [] = false
begins_with_letter (byte ∷ bytes) = is_small_letter byte

-- options: the name of one comes first
abbrev pub are_options : List (List ℕ) → Bool
are_options [] = true
are_options (name ∷ words) = begins_with_letter name && list_all is_word (name ∷ words)

-- each part is what the rule asks for
unfoldable pub is_rule : FilterValue → Bool
is_rule f = is_protocol f.protocol && (is_endpoint f.source && (is_endpoint f.destination && are_options f.options))

-- ---- how a filter is written

abbrev pub endpoint_words : EndpointValue → List (List ℕ)
endpoint_words e = e.address ∷ option_to_list e.ports

abbrev pub filter_words : FilterValue → List (List ℕ)
filter_words f =
    permit_word
    ∷ direction_word f.direction
    ∷ f.protocol
    ∷ from_word
    ∷ (endpoint_words f.source ++ (to_word ∷ (endpoint_words f.destination ++ f.options)))

-- the text of a filter
unfoldable pub spelled : FilterValue → List ℕ
spelled f = text_of (filter_words f)

-- a text is a filter of these parts
pub record Spells (text : List ℕ) (f : FilterValue) : Type 0 where
  pub spelling : text ≡ spelled f
  pub rule : is_rule f ≡ true

-- ---- how a filter is read, word by word

-- what is behind a word, where it comes first
abbrev pub behind : List ℕ → List (List ℕ) → Option (List (List ℕ))
behind word [] = None
behind word (first ∷ words) = if says first word then Some words else None

-- ports are what has no letter
abbrev pub with_ports : List ℕ → List (List ℕ) → EndpointValue × List (List ℕ)
with_ports address [] = (record { address = address; ports = None }, [])
with_ports address (word ∷ words) =
    if is_ports word
    then (record { address = address; ports = Some word }, words)
    else (record { address = address; ports = None }, word ∷ words)

-- src or dst, and what is behind it
abbrev pub endpoint_in : List (List ℕ) → Option (EndpointValue × List (List ℕ))
endpoint_in [] = None
endpoint_in (address ∷ words) = Some (with_ports address words)

-- where each part is what the rule asks for
abbrev pub if_rule : FilterValue → Option FilterValue
if_rule f = if is_rule f then Some f else None

-- dst and options, behind `to`
abbrev pub from_destination : Direction → List ℕ → EndpointValue → Option (EndpointValue × List (List ℕ)) → Option FilterValue
from_destination direction protocol source None = None
from_destination direction protocol source (Some given) = if_rule (record {
  direction = direction;
  protocol = protocol;
  source = source;
  destination = given.0;
  options = given.1;
})

abbrev pub from_to : Direction → List ℕ → EndpointValue → Option (List (List ℕ)) → Option FilterValue
from_to direction protocol source None = None
from_to direction protocol source (Some words) = from_destination direction protocol source (endpoint_in words)

-- src, behind `from`
abbrev pub from_source : Direction → List ℕ → Option (EndpointValue × List (List ℕ)) → Option FilterValue
from_source direction protocol None = None
from_source direction protocol (Some given) = from_to direction protocol given.0 (behind to_word given.1)

abbrev pub from_from : Direction → List ℕ → Option (List (List ℕ)) → Option FilterValue
from_from direction protocol None = None
from_from direction protocol (Some words) = from_source direction protocol (endpoint_in words)

-- proto
abbrev pub from_protocol : Direction → List (List ℕ) → Option FilterValue
from_protocol direction [] = None
from_protocol direction (protocol ∷ words) = from_from direction protocol (behind from_word words)

-- dir
abbrev pub from_direction : List (List ℕ) → Option FilterValue
from_direction [] = None
from_direction (word ∷ words) =
    if says word in_word then from_protocol Uplink words else
    if says word out_word then from_protocol Downlink words else
    None

abbrev pub from_action : Option (List (List ℕ)) → Option FilterValue
from_action None = None
from_action (Some words) = from_direction words

-- the parts of a text, where it is a filter
unfoldable pub parts_of : List ℕ → Option FilterValue
parts_of text = from_action (behind permit_word (words_of text))
