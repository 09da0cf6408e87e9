-- AVPs behind a message spell the message that has them.
use Rattle.std.proofs.Common.{◌≡◌, ◌≤◌, ◌<◌, ℕ, ◌+◌, true, false, List, ◌++◌, length, take, drop, refl, sym, ap, ◌∙◌, arith, length-append}
use Rattle.std.specs.List.{sum_by, flat_map}
use Rattle.std.proofs.lemmas.Bool.{le-leb, lt-leb, and_from, and_right}
use Rattle.std.proofs.lemmas.Grind.{flat_map-append}
use Rattle.std.proofs.lemmas.List.{drop-append-le, take-append-le}
use Rattle.std.proofs.lemmas.List.Sums.{sum_by-append}
use Rattle.dia_codec.specs.declared.message.Header.{Header}
use Rattle.dia_codec.specs.Fields.{AvpValue, MessageValue}
use Rattle.dia_codec.specs.Limits.{length_field_end, longest_message}
use Rattle.dia_codec.specs.Written.{word_bytes, three_bytes, written_avp, written_header, written_len, written_spelling, padded_len}
use Rattle.dia_base.specs.Behind.{behind, has_room, with_avps, with_more, SpellsBoth}
use Rattle.dia_base.proofs.StandardLengths.{avps_length}

-- a header has 20 bytes
header_length : (n : ℕ) (h : Header) → length (written_header n h) ≡ 20
unfolding written_header word_bytes three_bytes
header_length n h = refl

-- a header with another length differs in its second to fourth byte alone
header_anew : (n k : ℕ) (h : Header) (own more : List ℕ) → take 1 (written_header n h ++ own) ++ (three_bytes k ++ (drop length_field_end (written_header n h ++ own) ++ more)) ≡ written_header k h ++ (own ++ more)
unfolding written_header word_bytes three_bytes
header_anew n k h own more = refl

-- the length of a message
spelled_length : (m : MessageValue) → length (written_spelling m) ≡ written_len m
unfolding written_spelling
spelled_length m =
    omega (arith, length-append (written_header (written_len m) m.header) (flat_map written_avp m.avps), header_length (written_len m) m.header, avps_length m.avps)

-- with more behind it
both_length : (m : MessageValue) (avps : List AvpValue) → length (written_spelling m) + length (flat_map written_avp avps) ≡ written_len (with_avps avps m)
both_length m avps = omega (arith, spelled_length m, avps_length avps, sum_by-append padded_len m.avps avps)

-- there is room
room : (m : MessageValue) (avps : List AvpValue) → written_len (with_avps avps m) ≤ longest_message → has_room (written_spelling m) (flat_map written_avp avps) ≡ true
room m avps short =
    let both = both_length m avps in
    let spelled = spelled_length m in
    and_from _ _ (le-leb length_field_end (length (written_spelling m)) (omega (arith, spelled))) (le-leb (length (written_spelling m) + length (flat_map written_avp avps)) longest_message (omega (arith, both, short)))

-- both are spelled
spelled : (m : MessageValue) (avps : List AvpValue) → with_more (written_spelling m) (flat_map written_avp avps) ≡ written_spelling (with_avps avps m)
unfolding written_spelling
spelled m avps =
    let own = flat_map written_avp m.avps in
    let more = flat_map written_avp avps in
    header_anew (written_len m) (length (written_spelling m) + length more) m.header own more
    ∙ ap (λ (n : ℕ). written_header n m.header ++ (own ++ more)) (both_length m avps)
    ∙ ap (λ (bytes : List ℕ). written_header (written_len (with_avps avps m)) m.header ++ bytes) (sym (flat_map-append written_avp m.avps avps))

-- more is put behind, and then the length is set
pub lengthened : (bytes more : List ℕ) → length_field_end ≤ length bytes → take 1 (bytes ++ more) ++ (three_bytes (length (bytes ++ more)) ++ drop length_field_end (bytes ++ more)) ≡ with_more bytes more
lengthened bytes more long =
    let head : take 1 (bytes ++ more) ≡ take 1 bytes = take-append-le 1 bytes more (omega (arith, long)) in
    let size : length (bytes ++ more) ≡ length bytes + length more = length-append bytes more in
    let rest : drop length_field_end (bytes ++ more) ≡ drop length_field_end bytes ++ more = drop-append-le length_field_end bytes more long in
    rw (head, size, rest) refl

pub spells_both : SpellsBoth
unfolding behind
spells_both m avps short = rw (room m avps short) (spelled m avps)

-- AVPs that fit no message fit behind none
pub no_room : (bytes : List ℕ) (avps : List AvpValue) → longest_message < sum_by padded_len avps → behind avps bytes ≡ bytes
unfolding behind
no_room bytes avps long =
    let more = avps_length avps in
    let too_long : has_room bytes (flat_map written_avp avps) ≡ false = and_right _ _ (lt-leb (length bytes + length (flat_map written_avp avps)) longest_message (omega (arith, more, long))) in
    rw too_long refl
