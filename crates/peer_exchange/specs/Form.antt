-- Which letters have a spelling (this project's profile).
use Rattle.std.specs.Prelude.{◌≡◌, ℕ, ◌+◌, ◌^◌, Bool, true, false, ◌&&◌, nat_lt, nat_le, List, length, Option, Some, None, if◌then◌else◌}
use Rattle.std.specs.List.{list_all}
use Rattle.pcrf_values.specs.Limits.{last_counter, last_epoch, range_limit, site_limit}
use Rattle.pcrf_model.specs.Forms.{is_within, is_unsigned, is_operation}
use Rattle.pcrf_model.specs.Letters.{LetterBody, Range, Snapshot, Acknowledgement, LetterValue}
use Rattle.pcrf_model.specs.Operations.{Operation}
use Rattle.fact_codec.specs.Said.{has_fact}
use Rattle.site_join.specs.Groups.{Group, are_groups, groups_of_facts}
use Rattle.peer_exchange.specs.Limits.{letter_version, longest_letter}
use Rattle.peer_exchange.specs.Spelling.{letter_bytes, spelling_in}

-- a site by its number
abbrev pub is_site : ℕ → Bool
is_site n = nat_lt n site_limit

-- an epoch, of two bytes
abbrev pub is_epoch : ℕ → Bool
is_epoch n = nat_lt n (2 ^ 16)

-- A range of as many operations as are answered at once, up to the last position that a log may have; a whole state with the length of a log;
-- the entry of a maker, in epoch 0 where nothing of it was taken.
abbrev pub is_placed : LetterBody → Bool
is_placed (Range from os) = nat_le (length os) range_limit && nat_le (from + length os) last_counter
is_placed (Snapshot h n) = nat_le n last_counter
is_placed (Acknowledgement m e c) = is_site m && is_epoch e && nat_le c last_counter

-- What is said has the form of what sites make and hold: each operation is one that a site may make; of each session stands what a state may hold.
abbrev pub is_formed : LetterBody → Bool
is_formed (Range from os) = list_all is_operation os
is_formed (Snapshot h n) = are_groups h.clock (groups_of_facts h.facts)
is_formed (Acknowledgement m e c) = true

-- what stands on a letter is within its range
abbrev pub is_addressed : LetterValue → Bool
is_addressed l = is_unsigned l.edition && is_site l.site && is_within 1 last_epoch l.epoch && is_placed l.body

-- the letter, where it is within its ranges
abbrev pub if_addressed : LetterValue → Option LetterValue
if_addressed l = if is_addressed l then Some l else None

-- what the type of letters keeps
pub record IsKept (l : LetterValue) : Type 0 where
  pub addressed : is_addressed l ≡ true
  pub formed : is_formed l.body ≡ true

-- letters of version v have all that is said
abbrev pub has_body : ℕ → LetterBody → Bool
has_body v (Range from os) = list_all (λ (o : Operation). list_all (has_fact v) o.facts) os
has_body v (Snapshot h n) = list_all (λ (g : Group). list_all (has_fact v) g.1) (groups_of_facts h.facts)
has_body v (Acknowledgement m e c) = true

-- The bytes are the letter's spelling of a version that is read and has what it says.
pub record IsSpelled (bytes : List ℕ) (l : LetterValue) : Type 0 where
  pub version : ℕ
  pub known : is_within 1 letter_version version ≡ true
  pub had : has_body version l.body ≡ true
  pub spelled : bytes ≡ spelling_in version l

-- a letter
abbrev pub is_letter : LetterValue → Bool
is_letter l = is_addressed l && is_formed l.body && nat_le (length (letter_bytes l)) longest_letter

-- A letter, in a version that is read and has what it says.
pub record IsReadIn (v : ℕ) (l : LetterValue) : Type 0 where
  pub known : is_within 1 letter_version v ≡ true
  pub letter : is_letter l ≡ true
  pub had : has_body v l.body ≡ true
