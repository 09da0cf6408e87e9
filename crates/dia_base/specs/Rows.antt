-- What a command's grammar asks of a message's AVPs (RFC 6733, 3.2), as rows of a table, and the first refusal of
-- what breaks it (7.1.5).
use Rattle.std.specs.Prelude.{◌≡◌, ℕ, Bool, false, ◌&&◌, ◌==◌, nat_lt, nat_le, if◌then◌else◌, List, [], ◌∷◌, length, find, Option, Some, None, option_map, option_to_list, unwrap_or, is_some, ⊤}
use Rattle.std.specs.List.{filter_map}
use Rattle.std.specs.Option.{option_eq}
use Rattle.std.proofs.Common.{option_and_then}
use Rattle.pcrf_values.specs.Prefixes.{Ipv6Prefix, prefix_from}
use Rattle.pcrf_values.specs.Results.{invalid_avp_value, missing_avp, avp_occurs_too_many_times, invalid_avp_length}
use Rattle.pcrf_values.specs.declared.refusal.Refusal.{Refusal}
use Rattle.dia_codec.specs.declared.message.Avp.{Avp}
use Rattle.dia_codec.specs.declared.message.AvpKey.{AvpKey}
use Rattle.dia_codec.specs.Fields.{AvpValue, key_of, word_at}
use Rattle.dia_codec.specs.Reading.{avps_of}
use Rattle.dia_base.specs.declared.read_fault.ReadFault.{ReadFault}
use Rattle.dia_base.specs.declared.read_fault.ReadFault.TheVariants.{Refused, NoMemory}

-- ---- what stands at a key

abbrev pub same_key : AvpKey → AvpKey → Bool
same_key x y = (x.code == y.code) && option_eq (λ a b. a == b) x.vendor y.vendor

abbrev pub has_key : AvpKey → AvpValue → Bool
has_key key a = same_key (key_of a) key

abbrev pub value_if : AvpKey → AvpValue → Option (List ℕ)
value_if key a = if has_key key a then Some a.value else None

-- the values of the AVPs with this key, in order
abbrev pub values_of : AvpKey → List AvpValue → List (List ℕ)
values_of key avps = filter_map (value_if key) avps

abbrev pub first_of : {X : Type 0} → List X → Option X
first_of [] = None
first_of (x ∷ xs) = Some x

-- the first value at a key
abbrev pub value_of : AvpKey → List AvpValue → Option (List ℕ)
value_of key avps = first_of (values_of key avps)

-- the first value at a key, empty where there is none
abbrev pub text_at : AvpKey → List AvpValue → List ℕ
text_at key avps = unwrap_or (value_of key avps) []

-- the number that the first value at a key is, big-endian
abbrev pub number_at : AvpKey → List AvpValue → Option ℕ
number_at key avps = option_map (λ value. word_at value 0) (value_of key avps)

-- the first AVP with a key
abbrev pub first_at : AvpKey → List AvpValue → Option AvpValue
first_at key avps = find (has_key key) avps

-- the value of an AVP, if one was found
abbrev pub value_in : Option Avp → Option (List ℕ)
value_in found = option_map (λ (avp : Avp). avp.value.now) found

-- what was found, if anything was, is all that has the key
abbrev pub IsOnlyAt : AvpKey → List AvpValue → Option Avp → Type 0
IsOnlyAt key avps found = values_of key avps ≡ option_to_list (value_in found)

-- the prefix that a value gives: a byte that doesn't count, the length in bits, and the bits (RFC 3162, 2.3)
abbrev pub prefix_in : List ℕ → Option Ipv6Prefix
prefix_in [] = None
prefix_in (x ∷ []) = None
prefix_in (x ∷ n ∷ bits) = prefix_from n bits

-- the prefix that the first value at a key gives
abbrev pub prefix_at : AvpKey → List AvpValue → Option Ipv6Prefix
prefix_at key avps = option_and_then prefix_in (value_of key avps)

-- ---- refusals

-- the first of two, if it is one, else the second
abbrev pub or_else : Option Refusal → Option Refusal → Option Refusal
or_else None second = second
or_else (Some first) second = Some first

-- the first refusal of a list's members
abbrev pub refusal_among : {X : Type 0} → (X → Option Refusal) → List X → Option Refusal
refusal_among judge [] = None
refusal_among judge (x ∷ xs) = or_else (judge x) (refusal_among judge xs)

-- What a value has to be: the refusal of one that isn't.
abbrev pub Kind : Type 0
Kind = List ℕ → Option Refusal

-- A row: an AVP, how often it stands at least and at most (any number of times, where no most is given), and what its value
-- has to be.
pub record Row : Type 0 where
  pub key : AvpKey
  pub least : ℕ
  pub most : Option ℕ
  pub kind : Kind

-- the row of an AVP that stands exactly once
abbrev pub required : AvpKey → Kind → Row
required key kind = record { key = key; least = 1; most = Some 1; kind = kind }

-- the row of an AVP that may stand once
abbrev pub optional : AvpKey → Kind → Row
optional key kind = record { key = key; least = 0; most = Some 1; kind = kind }

-- the row of an AVP that may stand so many times, or any number of times
abbrev pub repeated : AvpKey → Option ℕ → Kind → Row
repeated key most kind = record { key = key; least = 0; most = most; kind = kind }

-- it stands more often than that, where there is a limit
abbrev pub is_too_often : Option ℕ → ℕ → Bool
is_too_often None count = false
is_too_often (Some most) count = nat_lt most count

-- The first refusal of one row: the AVP stands too often, or too seldom, or one of its values is refused.
unfoldable pub row_refusal : Row → List AvpValue → Option Refusal
row_refusal row avps =
    if is_too_often row.most (length (values_of row.key avps)) then Some avp_occurs_too_many_times else
    if nat_lt (length (values_of row.key avps)) row.least then Some missing_avp else
    refusal_among row.kind (values_of row.key avps)

-- The first refusal of a table, row by row.
abbrev pub rows_refusal : List Row → List AvpValue → Option Refusal
rows_refusal rows avps = refusal_among (λ row. row_refusal row avps) rows

-- ---- Kinds of values. A number that isn't four bytes long, and a group that can't be cut into AVPs, have a bad
-- ---- length; every other value outside the table is a bad value.

-- four bytes (Unsigned32, 4.2)
abbrev pub unsigned32 : Kind
unsigned32 value = if length value == 4 then None else Some invalid_avp_length

-- a number from the first to the second (Enumerated, 4.3.1)
abbrev pub enumerated : ℕ → ℕ → Kind
enumerated least most value =
    if length value == 4
    then (if nat_le least (word_at value 0) && nat_le (word_at value 0) most then None else Some invalid_avp_value)
    else Some invalid_avp_length

-- any bytes (OctetString, 4.2)
abbrev pub octet_string : Kind
octet_string value = None

-- one byte to so many (OctetString, 4.2, and what derives from it)
abbrev pub text_to : ℕ → Kind
text_to most value = if nat_le 1 (length value) && nat_le (length value) most then None else Some invalid_avp_value

-- four bytes, an IPv4 address (RFC 7155, 4.4.10.5.1)
abbrev pub ipv4_address : Kind
ipv4_address value = if length value == 4 then None else Some invalid_avp_value

abbrev pub cut_refusal : List Row → Option (List AvpValue) → Option Refusal
cut_refusal rows None = Some invalid_avp_length
cut_refusal rows (Some avps) = rows_refusal rows avps

-- an IPv6 prefix
abbrev pub ipv6_prefix : Kind
ipv6_prefix value = if is_some (prefix_in value) then None else Some invalid_avp_value

-- AVPs that a table judges (Grouped, 4.4)
abbrev pub grouped : List Row → Kind
grouped rows value = cut_refusal rows (avps_of value)

-- ---- what a row says of AVPs

-- they break nothing of it
abbrev pub Accepts : Row → List AvpValue → Type 0
Accepts row avps = row_refusal row avps ≡ None

-- they are refused by it with this refusal
abbrev pub RefusesWith : Row → List AvpValue → Refusal → Type 0
RefusesWith row avps refusal = row_refusal row avps ≡ Some refusal

-- they are refused with this refusal wherever the AVP has to stand, whatever its value has to be
abbrev pub RefusesAnyKind : AvpKey → List AvpValue → Refusal → Type 0
RefusesAnyKind key avps refusal = (kind : Kind) → RefusesWith (required key kind) avps refusal

-- they break nothing of a table
abbrev pub AcceptsAll : List Row → List AvpValue → Type 0
AcceptsAll rows avps = rows_refusal rows avps ≡ None

-- ---- why a message isn't read

-- A fault says this refusal, unless memory ran out.
abbrev pub IsFaultOf : Option Refusal → ReadFault → Type 0
IsFaultOf refusal NoMemory = ⊤
IsFaultOf expected (Refused refusal) = expected ≡ Some refusal

-- a fault of what can't be cut into AVPs, whatever table would judge them
abbrev pub IsFaultOfAnyGroup : List ℕ → ReadFault → Type 0
IsFaultOfAnyGroup value fault = (rows : List Row) → IsFaultOf (grouped rows value) fault

-- a row refuses AVPs with what the fault says, unless memory ran out
abbrev pub FaultsWith : Row → List AvpValue → ReadFault → Type 0
FaultsWith row avps fault = IsFaultOf (row_refusal row avps) fault
