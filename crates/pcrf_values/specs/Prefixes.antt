-- IPv6 prefixes, as Framed-IPv6-Prefix gives them (RFC 3162, 2.3): how many bits count, and which
-- they are.
use Rattle.std.specs.Prelude.{ℕ, ◌+◌, ◌-◌, ◌*◌, ◌/◌, ◌^◌, ◌≡◌, Bool, true, ◌&&◌, if◌then◌else◌, nat_le, List, [], ◌∷◌, ◌++◌, length, Option, Some, None}
use Rattle.std.proofs.Common.{Ordering, replicate}
use Rattle.std.specs.Ordering.{is_eq, nat_cmp}
use Rattle.pcrf_values.specs.Orders.{pair_cmp, text_cmp}

-- the length in bits, up to 128, and 16 bytes, in which the bits past the length are zero
abbrev pub Ipv6Prefix : Type 0
Ipv6Prefix = ℕ × List ℕ

-- the bits of an IPv6 address, and its bytes (RFC 4291, 2)
abbrev pub address_bits : ℕ
address_bits = 128

abbrev pub address_octets : ℕ
address_octets = 16

-- by length, and then by bytes (this project's profile)
abbrev pub prefix_cmp : Ipv6Prefix → Ipv6Prefix → Ordering
prefix_cmp = pair_cmp nat_cmp text_cmp

-- a byte with its first n bits as they are, and zeros past them
abbrev pub first_of_byte : ℕ → ℕ → ℕ
first_of_byte n b = b / 2 ^ (8 - n) * 2 ^ (8 - n)

-- and bytes with theirs
abbrev pub first_bits : ℕ → List ℕ → List ℕ
first_bits n [] = []
first_bits n (b ∷ bs) = first_of_byte n b ∷ first_bits (n - 8) bs

-- the first is no longer than the second, and the second has its bits
abbrev pub covers : Ipv6Prefix → Ipv6Prefix → Bool
covers p q = nat_le p.0 q.0 && is_eq (text_cmp (first_bits p.0 p.1) (first_bits p.0 q.1))

-- how many bytes n bits need
abbrev pub octets_for : ℕ → ℕ
octets_for n = (n + 7) / 8

-- bytes, and zeros up to those of an address
abbrev pub padded : List ℕ → List ℕ
padded bs = bs ++ replicate (address_octets - length bs) 0

-- the prefix of n bits that begins with these bytes, where they are as many as its bits need or more
abbrev pub prefix_from : ℕ → List ℕ → Option Ipv6Prefix
prefix_from n bs =
    if nat_le n address_bits && nat_le (octets_for n) (length bs)
    && nat_le (length bs) address_octets
    then Some (n, first_bits n (padded bs)) else None

-- a prefix covers itself, and all that is covered by what it covers
pub record PrefixesCover : Type 0 where
  pub itself : (p : Ipv6Prefix) → covers p p ≡ true
  pub onward : (p q r : Ipv6Prefix) → covers p q ≡ true → covers q r ≡ true → covers p r ≡ true
