-- What a writer's bytes are.
use Rattle.std.proofs.Common.{◌≡◌, ℕ, ◌+◌, ◌-◌, ◌%◌, ◌≤◌, Bool, List, [], ◌∷◌, ◌++◌, length, take, drop, Option, Some, None, refl, sym, ap, ◌∙◌, arith, length-append, length-drop, append_assoc}
use Rattle.std.specs.List.{flat_map, sum_by}
use Rattle.std.proofs.lemmas.List.{drop-append-le, drop-drop, drop-take, length-take, append-nil}
use Rattle.std.proofs.lemmas.List.Concat.{flat_map-append}
use Rattle.std.proofs.Math.Seq.{take-append-add, drop-append-add}
use Rattle.dia_codec.specs.declared.message.Header.{Header}
use Rattle.dia_codec.proofs.RoundTrip.{avps_length, fours}
use Rattle.dia_codec.specs.declared.message.AvpKey.{AvpKey}
use Rattle.dia_codec.specs.Fields.{AvpValue, padding}
use Rattle.dia_codec.specs.Written.{word_bytes, three_bytes, avp_flag_byte, own_len, written_own, written_avp, written_header, written_spelling, padded_len}
use Rattle.dia_codec.specs.Drafts.{Adds, Closes, Opens, closed_at, keyed_avp, keyed_group, written_avps, written_head}

-- what is added behind the room for the header stands behind the AVPs so far
pub behind : (old new more : List ℕ) → 20 ≤ length old → new ≡ old ++ more → drop 20 new ≡ drop 20 old ++ more
behind old new more room is = ap (drop 20) is ∙ drop-append-le 20 old more room

-- the bytes of a number without a vendor
pub number_plain : (key : AvpKey) (mandatory : Bool) (n : ℕ) → key.vendor ≡ None → written_avp (keyed_avp key mandatory (word_bytes n)) ≡ word_bytes key.code ++ avp_flag_byte (keyed_avp key mandatory []) ∷ 0 ∷ 0 ∷ 12 ∷ word_bytes n
unfolding written_avp word_bytes three_bytes
number_plain key mandatory n none = rw none refl

-- the bytes of a number with a vendor
pub number_of_vendor : (key : AvpKey) (mandatory : Bool) (n vendor : ℕ) → key.vendor ≡ Some vendor → written_avp (keyed_avp key mandatory (word_bytes n)) ≡ word_bytes key.code ++ avp_flag_byte (keyed_avp key mandatory []) ∷ 0 ∷ 0 ∷ 16 ∷ word_bytes vendor ++ word_bytes n
unfolding written_avp word_bytes three_bytes
number_of_vendor key mandatory n vendor some = rw some refl

-- the bytes before a value with a vendor
pub head_of_vendor : (key : AvpKey) (mandatory : Bool) (n vendor : ℕ) → key.vendor ≡ Some vendor → written_head key mandatory n ≡ word_bytes key.code ++ avp_flag_byte (keyed_avp key mandatory []) ∷ [] ++ three_bytes n ++ word_bytes vendor
unfolding written_head
head_of_vendor key mandatory n vendor some = rw some refl

-- a length that is set behind the room for the header
pub closed_behind : (at : ℕ) (xs : List ℕ) → 20 + at + 8 ≤ length xs → drop 20 (closed_at (20 + at) xs) ≡ closed_at at (drop 20 xs)
unfolding closed_at
closed_behind at xs within =
    let front : drop 20 (take (20 + (at + 5)) xs) ≡ take (at + 5) (drop 20 xs) = drop-take 20 (at + 5) xs in
    let sum : 20 + at + 5 ≡ 20 + (at + 5) = omega arith in
    let room : 20 ≤ length (take (20 + at + 5) xs) = rw length-take (omega arith) in
    let left : length xs - (20 + at) ≡ length (drop 20 xs) - at = rw length-drop (omega arith) in
    let last : drop (20 + at + 8) xs ≡ drop (at + 8) (drop 20 xs) = (let s : 20 + at + 8 ≡ 20 + (at + 8) = omega arith in rw s (sym (drop-drop (at + 8) 20 xs))) in
    let joined : closed_at (20 + at) xs ≡ take (20 + at + 5) xs ++ (three_bytes (length xs - (20 + at)) ++ drop (20 + at + 8) xs) = append_assoc (take (20 + at + 5) xs) (three_bytes (length xs - (20 + at))) (drop (20 + at + 8) xs) in
    let split = drop-append-le 20 (take (20 + at + 5) xs) (three_bytes (length xs - (20 + at)) ++ drop (20 + at + 8) xs) room in
    let parts : drop 20 (take (20 + at + 5) xs) ++ (three_bytes (length xs - (20 + at)) ++ drop (20 + at + 8) xs) ≡ take (at + 5) (drop 20 xs) ++ (three_bytes (length (drop 20 xs) - at) ++ drop (at + 8) (drop 20 xs)) = rw (sum, front, left, last) refl in
    ap (drop 20) joined ∙ split ∙ parts ∙ sym (append_assoc (take (at + 5) (drop 20 xs)) (three_bytes (length (drop 20 xs) - at)) (drop (at + 8) (drop 20 xs)))

-- a length that is set at the head of the last AVP
closed_at_head : (before rest : List ℕ) (c0 c1 c2 c3 f n : ℕ) → 8 + length rest ≡ n → closed_at (length before) (before ++ (c0 ∷ c1 ∷ c2 ∷ c3 ∷ f ∷ 0 ∷ 0 ∷ 0 ∷ rest)) ≡ before ++ (c0 ∷ c1 ∷ c2 ∷ c3 ∷ f ∷ (three_bytes n ++ rest))
unfolding closed_at
closed_at_head before rest c0 c1 c2 c3 f n is =
    let all : List ℕ = c0 ∷ c1 ∷ c2 ∷ c3 ∷ f ∷ 0 ∷ 0 ∷ 0 ∷ rest in
    let front = take-append-add before all 5 in
    let back = drop-append-add before all 8 in
    let size : length (before ++ all) - length before ≡ n = rw length-append (omega arith) in
    rw (front, back, size) (simp append_assoc)

-- nothing fills up a multiple of four
unpadded : (a : AvpValue) → own_len a % 4 ≡ 0 → written_avp a ≡ written_own a
unfolding written_avp
unpadded a even = let none : padding (own_len a) ≡ 0 = omega arith in rw none (append-nil (written_own a))

closed_fields : (code : ℕ) (vendor : Option ℕ) (mandatory : Bool) (before value : List ℕ) → length value % 4 ≡ 0 → let key : AvpKey = record { code = code; vendor = vendor } in closed_at (length before) (before ++ (written_head key mandatory 0 ++ value)) ≡ before ++ written_own (keyed_avp key mandatory value)
unfolding written_head word_bytes three_bytes
closed_fields code None mandatory before value even = closed_at_head before value _ _ _ _ _ (8 + length value) refl
closed_fields code (Some vendor) mandatory before value even = closed_at_head before (word_bytes vendor ++ value) _ _ _ _ _ (12 + length value) (omega arith)

keyed_even : (code : ℕ) (vendor : Option ℕ) (mandatory : Bool) (value : List ℕ) → length value % 4 ≡ 0 → own_len (keyed_avp (record { code = code; vendor = vendor }) mandatory value) % 4 ≡ 0
keyed_even code None mandatory value even = omega arith
keyed_even code (Some vendor) mandatory value even = omega arith

-- a group whose length is set is an AVP, where its value fills up to a multiple of four
pub closed_value : (key : AvpKey) (mandatory : Bool) (before value : List ℕ) → length value % 4 ≡ 0 → closed_at (length before) (before ++ written_head key mandatory 0 ++ value) ≡ before ++ written_avp (keyed_avp key mandatory value)
closed_value key mandatory before value even =
    let whole = unpadded (keyed_avp key mandatory value) (keyed_even key.code key.vendor mandatory value even) in
    rw (append_assoc, whole) (closed_fields key.code key.vendor mandatory before value even)

-- one AVP more
pub adds_one : (a : AvpValue) (old new : List ℕ) → new ≡ old ++ written_avp a → Adds old new (a ∷ [])
adds_one a old new is = record { bytes = is ∙ ap (λ (more : List ℕ). old ++ more) (sym (append-nil (written_avp a))) }

-- no AVP more
pub adds_none : {old : List ℕ} → Adds old old []
adds_none {old} = record { bytes = sym (append-nil old) }

-- AVPs, and then more
pub adds : {first second third : List ℕ} {xs ys : List AvpValue} → Adds first second xs → Adds second third ys → Adds first third (xs ++ ys)
adds {first} {second} {third} {xs} {ys} one two =
    record { bytes = two.bytes ∙ rw (one.bytes, flat_map-append written_avp xs ys) (append_assoc first (written_avps xs) (written_avps ys)) }

-- a group that is closed is an AVP
pub closes : {key : AvpKey} {mandatory : Bool} {first second third fourth : List ℕ} {at : ℕ} {avps : List AvpValue} → Opens key mandatory first second at → Adds second third avps → Closes at third fourth → Adds first fourth (keyed_group key mandatory avps ∷ [])
closes {key} {mandatory} {first} {second} {third} {fourth} {at} {avps} opened filled closed =
    let even : length (written_avps avps) % 4 ≡ 0 = ap (λ (n : ℕ). n % 4) (avps_length avps) ∙ fours avps in
    adds_one (keyed_group key mandatory avps) first fourth (closed.bytes ∙ rw (opened.place, filled.bytes, opened.head) (closed_value key mandatory first (written_avps avps) even))

head_length : (code : ℕ) (vendor : Option ℕ) (mandatory : Bool) → 8 ≤ length (written_head (record { code = code; vendor = vendor }) mandatory 0)
unfolding written_head word_bytes three_bytes
head_length code None mandatory = omega arith
head_length code (Some vendor) mandatory = omega arith

-- a group that is open can be closed
pub can_close : {key : AvpKey} {mandatory : Bool} {first second third : List ℕ} {at : ℕ} {avps : List AvpValue} → Opens key mandatory first second at → Adds second third avps → at + 8 ≤ length third
can_close {key} {mandatory} {first} {second} {third} {at} {avps} opened filled =
    let head = head_length key.code key.vendor mandatory in
    rw (filled.bytes, opened.head, opened.place) (omega (arith, head, length-append {A = ℕ}))

-- how long AVPs are as they are written
pub body_length : (avps : List AvpValue) (body : List ℕ) → Adds [] body avps → length body ≡ sum_by padded_len avps
body_length avps body added = ap length added.bytes ∙ avps_length avps

-- the bytes of a message are its written spelling
pub spelled : (h : Header) (avps : List AvpValue) (body bytes : List ℕ) → Adds [] body avps → bytes ≡ written_header (20 + length body) h ++ body → bytes ≡ written_spelling (record { header = h; avps = avps })
unfolding written_spelling
spelled h avps body bytes added is = is ∙ rw (body_length avps body added, added.bytes) refl

-- the first AVPs
pub adds_first : {start new : List ℕ} {avps : List AvpValue} → start ≡ [] → Adds start new avps → Adds [] new avps
adds_first {start} {new} {avps} is added = record { bytes = added.bytes ∙ ap (λ (front : List ℕ). front ++ written_avps avps) is }
