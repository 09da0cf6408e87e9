-- The length of AVPs that are written.
use Rattle.std.proofs.Common.{◌≡◌, ℕ, Bool, List, [], ◌∷◌, Option, None, Some, length, take, refl, arith}
use Rattle.std.specs.List.{sum_by, flat_map}
use Rattle.std.proofs.lemmas.List.{length-append, length-take}
use Rattle.std.proofs.lemmas.List.Concat.{flat_map-cons}
use Rattle.std.proofs.lemmas.List.Sums.{sum_by-cons}
use Rattle.dia_codec.specs.Fields.{AvpValue, padding}
use Rattle.dia_codec.specs.Written.{word_bytes, written_avp, written_own, own_len, padded_len}
use Rattle.dia_codec.specs.Written as written

-- of one, without its padding
own_length : (code : ℕ) (vendor : Option ℕ) (m p : Bool) (value : List ℕ) → length (written_own (record { code = code; vendor = vendor; mandatory = m; protected = p; value = value })) ≡ own_len (record { code = code; vendor = vendor; mandatory = m; protected = p; value = value })
unfolding word_bytes written.three_bytes
own_length code None m p value = omega arith
own_length code (Some vendor) m p value = omega arith

-- what padding is taken from
abbrev zeros : List ℕ
zeros = 0 ∷ 0 ∷ 0 ∷ 0 ∷ []

-- there are zeros enough for padding
pad_length : (n : ℕ) → length (take (padding n) zeros) ≡ padding n
pad_length n = rw length-take (omega arith)

-- of one, with its padding
avp_length : (a : AvpValue) → length (written_avp a) ≡ padded_len a
unfolding written_avp
avp_length a = omega (arith, length-append (written_own a) (take (padding (own_len a)) zeros), own_length a.code a.vendor a.mandatory a.protected a.value, pad_length (own_len a))

-- of many
pub avps_length : (avps : List AvpValue) → length (flat_map written_avp avps) ≡ sum_by padded_len avps
avps_length [] = refl
avps_length (a ∷ avps) = rw (flat_map-cons, sum_by-cons, length-append, avp_length a, avps_length avps) refl
