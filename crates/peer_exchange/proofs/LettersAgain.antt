-- What is spelled so is read again: operations, what letters say, and letters.
use Rattle.std.proofs.Common.{◌≡◌, ℕ, ◌+◌, ◌^◌, ◌<◌, ◌≤◌, ◌==◌, Bool, true, ◌&&◌, nat_lt, nat_le, List, [], ◌∷◌, ◌++◌, length, Some, Ok, refl, sym, ap, ◌∙◌, append_assoc, length-append, subst, arith, eqb-true, ltb-true}
use Rattle.std.specs.Cmp.{first_so, second_so}
use Rattle.std.specs.List.{flat_map, list_all}
use Rattle.std.proofs.lemmas.Bool.{eq-eqb}
use Rattle.std.proofs.lemmas.Bool.Decides.{nat_tests}
use Rattle.std.proofs.lemmas.List.{append-nil}
use Rattle.pcrf_values.proofs.Plain.{both}
use Rattle.pcrf_values.specs.Limits.{session_id_limit, last_counter, last_epoch, range_limit}
use Rattle.pcrf_values.specs.Places.{FramedIpAddress, CalledStationId, SubscriptionIds, OriginHost, OriginRealm, RequestType, FramedIpv6Prefix, OfSession, OfComponent, OfFlow, OfRuleName}
use Rattle.pcrf_values.specs.Facts.{Fact, End, Removed, Field, Aborted}
use Rattle.pcrf_model.specs.Sessions.{Kind, Gx, Af}
use Rattle.pcrf_model.specs.Operations.{Operation}
use Rattle.pcrf_model.specs.Forms.{is_within, is_unsigned, is_text, is_stamp, is_session, is_request_number, stand_together, fits, is_operation}
use Rattle.pcrf_model.specs.Letters.{LetterBody, Range, Snapshot, Acknowledgement, LetterValue}
use Rattle.pcrf_model.proofs.FormLaws.{all_pass, within_most, le_passes, passes_le}
use Rattle.pcrf_model.specs.Holdings.{Holding}
use Rattle.fact_codec.specs.Spelling.{short_bytes, word_bytes, long_bytes, text_bytes, facts_bytes, held_facts_bytes}
use Rattle.fact_codec.specs.Said.{has_fact}
use Rattle.fact_codec.specs.Reading.{many, byte}
use Rattle.fact_codec.proofs.NumberLaws.{short_again, word_again, long_again}
use Rattle.fact_codec.proofs.ValuesAgain.{many_again, text_again}
use Rattle.fact_codec.proofs.FactsAgain.{is_made, gx_facts_again, af_facts_again}
use Rattle.fact_codec.proofs.HeldAgain.{may_hold, held_gx_facts_again, held_af_facts_again}
use Rattle.fact_codec.proofs.FactLengths.{facts_no_more, held_facts_no_more}
use Rattle.site_join.specs.Groups.{Group, held_in, is_group, are_groups, groups_of_facts}
use Rattle.site_join.proofs.HeldGroups.{groups_by_test}
use Rattle.site_join.proofs.FormedGroups.{ungrouped_again}
use Rattle.peer_exchange.specs.Limits.{letter_version, longest_letter}
use Rattle.peer_exchange.specs.Form.{is_site, is_epoch, is_placed, is_formed, is_addressed, has_body, is_letter}
use Rattle.peer_exchange.specs.Spelling.{session_bytes, group_bytes, operation_bytes, operations_bytes, held_group_bytes, groups_bytes, body_bytes, letter_bytes_in, letter_bytes, spelling_in, spelling}
use Rattle.peer_exchange.specs.Reading.{group, operation, range, held_group, snapshot, acknowledgement, body, content, letter_of}
use Rattle.peer_exchange.proofs.Lengths.{operations_least, groups_least}

-- ---- operations

-- a session with the facts of an operation on it
group_again : (v counter site number : ℕ) (k : Kind) (id : List ℕ) (fs : List Fact) (rest : List ℕ) → is_text session_id_limit id ≡ true → length fs < 2 ^ 32 → list_all (is_made k counter site number) fs ≡ true → list_all (has_fact v) fs ≡ true
    → group v counter site number (group_bytes (record { kind = k; id = id }) fs ++ rest) ≡ Some ((record { kind = k; id = id }, fs), rest)
unfolding group group_bytes byte
group_again v counter site number Gx id fs rest named low made had =
    rw (append_assoc (text_bytes id) (facts_bytes fs) rest, text_again session_id_limit id (facts_bytes fs ++ rest) (omega arith) named, gx_facts_again v counter site number fs rest low made had) refl
group_again v counter site number Af id fs rest named low made had =
    rw (append_assoc (text_bytes id) (facts_bytes fs) rest, text_again session_id_limit id (facts_bytes fs ++ rest) (omega arith) named, af_facts_again v counter site number fs rest low made had) refl

-- the number of a request has 32 bits
number_low : (k : Kind) (n : ℕ) → is_request_number k n ≡ true → n < 2 ^ 32
number_low Gx n h = ltb-true n (2 ^ 32) h
number_low Af n h = omega (arith, eqb-true n 0 h)

-- the form of an operation that has a spelling, by parts
record IsSpelled (o : Operation) : Type 0 where
  counter : o.counter < 2 ^ 64
  number : o.number < 2 ^ 32
  session : is_text session_id_limit o.session.id ≡ true
  made : list_all (is_made o.session.kind o.counter o.site o.number) o.facts ≡ true

-- an operation of the form has one
spelled : (o : Operation) → is_operation o ≡ true → IsSpelled o
spelled o h =
    let four = first_so _ _ h in
    let three = first_so _ _ four in
    let two = first_so _ _ three in
    let stamp : is_stamp o.counter o.site ≡ true = first_so _ _ two in
    let counted : is_within 1 last_counter o.counter ≡ true = first_so _ _ stamp in
    record {
      counter = omega (arith, within_most 1 last_counter o.counter counted);
      number = number_low o.session.kind o.number (second_so (is_stamp o.counter o.site) _ two);
      session = second_so (is_stamp o.counter o.site && is_request_number o.session.kind o.number) _ three;
      made = second_so (is_stamp o.counter o.site && is_request_number o.session.kind o.number && is_session o.session && stand_together o.facts) _ h;
    }

-- of the form, with facts that can be counted and that letters of version v have
abbrev pub is_countable : ℕ → Operation → Bool
is_countable v o = is_operation o && nat_lt (length o.facts) (2 ^ 32) && list_all (has_fact v) o.facts

-- an operation
operation_again : (v : ℕ) (o : Operation) (rest : List ℕ) → is_countable v o ≡ true → operation v (operation_bytes o ++ rest) ≡ Some (o, rest)
unfolding operation operation_bytes byte
operation_again v o rest h =
    let two = first_so (is_operation o && nat_lt (length o.facts) (2 ^ 32)) _ h in
    let had : list_all (has_fact v) o.facts ≡ true = second_so (is_operation o && nat_lt (length o.facts) (2 ^ 32)) _ h in
    let formed : is_operation o ≡ true = first_so _ _ two in
    let low : length o.facts < 2 ^ 32 = ltb-true (length o.facts) (2 ^ 32) (second_so (is_operation o) _ two) in
    let s = spelled o formed in
    let on = group_bytes o.session o.facts in
    let numbered = word_bytes o.number ++ (on ++ rest) in
    let parts : (((long_bytes o.counter ++ o.site ∷ []) ++ word_bytes o.number) ++ on) ++ rest ≡ long_bytes o.counter ++ (o.site ∷ numbered) =
    append_assoc ((long_bytes o.counter ++ o.site ∷ []) ++ word_bytes o.number) on rest
    ∙ append_assoc (long_bytes o.counter ++ o.site ∷ []) (word_bytes o.number) (on ++ rest)
    ∙ append_assoc (long_bytes o.counter) (o.site ∷ []) numbered in
    rw (parts, long_again o.counter (o.site ∷ numbered) s.counter, word_again o.number (on ++ rest) s.number, group_again v o.counter o.site o.number o.session.kind o.session.id o.facts rest s.session low s.made had, formed) refl

-- an operation has no fewer bytes than facts
facts_within : (o : Operation) → length o.facts ≤ length (operation_bytes o)
unfolding operation_bytes group_bytes
facts_within o =
    let head = (long_bytes o.counter ++ o.site ∷ []) ++ word_bytes o.number in
    omega (arith, facts_no_more o.facts, length-append (session_bytes o.session) (facts_bytes o.facts), length-append head (session_bytes o.session ++ facts_bytes o.facts))

-- the operations of so few bytes can be counted
each_countable : (v : ℕ) (os : List Operation) → list_all is_operation os ≡ true → list_all (λ (o : Operation). list_all (has_fact v) o.facts) os ≡ true → length (flat_map operation_bytes os) < 2 ^ 32 → list_all (is_countable v) os ≡ true
each_countable v [] h had low = refl
each_countable v (o ∷ os) h had low =
    let all = length-append (operation_bytes o) (flat_map operation_bytes os) in
    let few : nat_lt (length o.facts) (2 ^ 32) ≡ true = (let lt : length o.facts < 2 ^ 32 = omega (arith, facts_within o, all) in grind (arith, nat_tests, lt)) in
    let first : is_countable v o ≡ true = both _ _ (both _ _ (first_so (is_operation o) _ h) few) (first_so (list_all (has_fact v) o.facts) _ had) in
    both _ _ first (each_countable v os (second_so (is_operation o) _ h) (second_so (list_all (has_fact v) o.facts) _ had) (omega (arith, all)))

-- ---- what a state holds

-- of the form, with facts that can be counted
abbrev pub is_counted_group : ℕ → ℕ → Group → Bool
is_counted_group v clock g = is_group clock g && nat_lt (length g.1) (2 ^ 32) && list_all (has_fact v) g.1

-- of a session of that kind
held_by_kind : (v clock : ℕ) (k : Kind) (id : List ℕ) (fs : List Fact) (rest : List ℕ) → is_text session_id_limit id ≡ true → length fs < 2 ^ 32 → list_all (may_hold k clock) fs ≡ true → list_all (has_fact v) fs ≡ true
    → held_group v (held_group_bytes (record { kind = k; id = id }, fs) ++ rest) ≡ Some ((record { kind = k; id = id }, fs), rest)
unfolding held_group held_group_bytes byte
held_by_kind v clock Gx id fs rest named low held had =
    rw (append_assoc (text_bytes id) (held_facts_bytes fs) rest, text_again session_id_limit id (held_facts_bytes fs ++ rest) (omega arith) named, held_gx_facts_again v clock fs rest low held had) refl
held_by_kind v clock Af id fs rest named low held had =
    rw (append_assoc (text_bytes id) (held_facts_bytes fs) rest, text_again session_id_limit id (held_facts_bytes fs ++ rest) (omega arith) named, held_af_facts_again v clock fs rest low held had) refl

-- of a session
held_group_again : (v clock : ℕ) (g : Group) (rest : List ℕ) → is_counted_group v clock g ≡ true → held_group v (held_group_bytes g ++ rest) ≡ Some (g, rest)
held_group_again v clock g rest h =
    let counted = first_so (is_group clock g && nat_lt (length g.1) (2 ^ 32)) _ h in
    let formed : is_group clock g ≡ true = first_so (is_group clock g) _ counted in
    let two = first_so (is_session g.0 && stand_together g.1) _ formed in
    held_by_kind v clock g.0.kind g.0.id g.1 rest (first_so (is_session g.0) _ two) (ltb-true (length g.1) (2 ^ 32) (second_so (is_group clock g) _ counted)) (second_so (is_session g.0 && stand_together g.1) _ formed) (second_so (is_group clock g && nat_lt (length g.1) (2 ^ 32)) _ h)

-- a group has no fewer bytes than facts
held_within : (g : Group) → length g.1 ≤ length (held_group_bytes g)
unfolding held_group_bytes
held_within g = omega (arith, held_facts_no_more g.1, length-append (session_bytes g.0) (held_facts_bytes g.1))

-- the groups of so few bytes can be counted
each_counted : (v clock : ℕ) (gs : List Group) → list_all (is_group clock) gs ≡ true → list_all (λ (g : Group). list_all (has_fact v) g.1) gs ≡ true → length (flat_map held_group_bytes gs) < 2 ^ 32 → list_all (is_counted_group v clock) gs ≡ true
each_counted v clock [] h had low = refl
each_counted v clock (g ∷ gs) h had low =
    let all = length-append (held_group_bytes g) (flat_map held_group_bytes gs) in
    let few : nat_lt (length g.1) (2 ^ 32) ≡ true = (let lt : length g.1 < 2 ^ 32 = omega (arith, held_within g, all) in grind (arith, nat_tests, lt)) in
    let first : is_counted_group v clock g ≡ true = both _ _ (both _ _ (first_so (is_group clock g) _ h) few) (first_so (list_all (has_fact v) g.1) _ had) in
    both _ _ first (each_counted v clock gs (second_so (is_group clock g) _ h) (second_so (list_all (has_fact v) g.1) _ had) (omega (arith, all)))

-- ---- letters

-- what a letter says
body_again : (v : ℕ) (b : LetterBody) (rest : List ℕ) → is_formed b ≡ true → is_placed b ≡ true → has_body v b ≡ true → length (body_bytes b) ≤ longest_letter → body v (body_bytes b ++ rest) ≡ Some (b, rest)
unfolding body range snapshot acknowledgement byte
body_again v (Range from os) rest formed placed had fits =
    let last : from + length os ≤ last_counter = passes_le (from + length os) last_counter (second_so (nat_le (length os) range_limit) _ placed) in
    let each = flat_map operation_bytes os in
    let bytes : length (long_bytes from ++ operations_bytes os) ≤ longest_letter = omega (arith, fits) in
    let whole = length-append (long_bytes from) (operations_bytes os) in
    let counted = length-append (word_bytes (length os)) each in
    let few : length os < 2 ^ 32 = omega (arith, bytes, whole, operations_least os) in
    let low : length each < 2 ^ 32 = omega (arith, bytes, whole, counted) in
    let parts : (long_bytes from ++ operations_bytes os) ++ rest ≡ long_bytes from ++ (word_bytes (length os) ++ (each ++ rest)) =
    append_assoc (long_bytes from) (operations_bytes os) rest ∙ ap (λ (x : List ℕ). long_bytes from ++ x) (append_assoc (word_bytes (length os)) each rest) in
    rw (parts, long_again from (word_bytes (length os) ++ (each ++ rest)) (omega (arith, last)), word_again (length os) (each ++ rest) few, many_again (operation v) operation_bytes (is_countable v) (operation_again v) os rest (each_countable v os formed had low)) refl
body_again v (Snapshot h n) rest formed placed had fits =
    let gs = groups_of_facts h.facts in
    let form = groups_by_test h.clock gs formed in
    let each = flat_map held_group_bytes gs in
    let last : n ≤ last_counter = passes_le n last_counter placed in
    let clock : h.clock ≤ last_counter = form.last in
    let head = long_bytes h.clock ++ long_bytes n in
    let bytes : length (head ++ groups_bytes gs) ≤ longest_letter = omega (arith, fits) in
    let whole = length-append head (groups_bytes gs) in
    let counted = length-append (word_bytes (length gs)) each in
    let few : length gs < 2 ^ 32 = omega (arith, bytes, whole, groups_least gs) in
    let low : length each < 2 ^ 32 = omega (arith, bytes, whole, counted) in
    let after = word_bytes (length gs) ++ (each ++ rest) in
    let parts : (head ++ groups_bytes gs) ++ rest ≡ long_bytes h.clock ++ (long_bytes n ++ after) =
    append_assoc head (groups_bytes gs) rest
    ∙ ap (λ (x : List ℕ). head ++ x) (append_assoc (word_bytes (length gs)) each rest)
    ∙ append_assoc (long_bytes h.clock) (long_bytes n) after in
    let read : many (held_group v) (length gs) (each ++ rest) ≡ Some (gs, rest) = many_again (held_group v) held_group_bytes (is_counted_group v h.clock) (held_group_again v h.clock) gs rest (each_counted v h.clock gs (second_so _ _ formed) had low) in
    let same : held_in h.clock gs ≡ h = (let facts = ungrouped_again h.facts in λ i. record { facts = facts i; clock = h.clock }) in
    rw (parts, long_again h.clock (long_bytes n ++ after) (omega (arith, clock)), long_again n after (omega (arith, last)), word_again (length gs) (each ++ rest) few, read, formed)
    (ap (λ (k : Holding). Some (Snapshot k n, rest)) same)
body_again v (Acknowledgement m e c) rest formed placed had fits =
    let two = first_so (is_site m && is_epoch e) _ placed in
    let epoch : e < 2 ^ 16 = ltb-true e (2 ^ 16) (second_so (is_site m) _ two) in
    let cursor : c ≤ last_counter = passes_le c last_counter (second_so (is_site m && is_epoch e) _ placed) in
    rw (append_assoc (short_bytes e) (long_bytes c) rest, short_again e (long_bytes c ++ rest) epoch, long_again c rest (omega (arith, cursor))) refl

-- what follows the edition
content_again : (v : ℕ) (l : LetterValue) → is_letter l ≡ true → has_body v l.body ≡ true → content v l.edition (l.site ∷ (short_bytes l.epoch ++ (body_bytes l.body ++ []))) ≡ Some (l, [])
unfolding content byte letter_bytes_in
content_again v l h had =
    let two = first_so (is_addressed l && is_formed l.body) _ h in
    let addressed : is_addressed l ≡ true = first_so _ _ two in
    let formed : is_formed l.body ≡ true = second_so (is_addressed l) _ two in
    let placed : is_placed l.body ≡ true = second_so (is_unsigned l.edition && is_site l.site && is_within 1 last_epoch l.epoch) _ addressed in
    let three = first_so (is_unsigned l.edition && is_site l.site && is_within 1 last_epoch l.epoch) _ addressed in
    let epoch : is_within 1 last_epoch l.epoch ≡ true = second_so (is_unsigned l.edition && is_site l.site) _ three in
    let low : l.epoch < 2 ^ 16 = omega (arith, within_most 1 last_epoch l.epoch epoch) in
    let short_enough : length (letter_bytes l) ≤ longest_letter = passes_le _ longest_letter (second_so (is_addressed l && is_formed l.body) _ h) in
    let head = (letter_version ∷ [] ++ word_bytes l.edition ++ l.site ∷ []) ++ short_bytes l.epoch in
    let fits : length (body_bytes l.body) ≤ longest_letter = omega (arith, short_enough, length-append head (body_bytes l.body)) in
    rw (short_again l.epoch (body_bytes l.body ++ []) low, body_again v l.body [] formed placed had fits, addressed) refl

-- a letter by what follows its edition
letter_by_content : (v edition : ℕ) (rest : List ℕ) (l : LetterValue) → is_within 1 letter_version v ≡ true → edition < 2 ^ 32 → length (v ∷ (word_bytes edition ++ rest)) ≤ longest_letter → content v edition rest ≡ Some (l, [])
    → letter_of edition (word_bytes (length (v ∷ (word_bytes edition ++ rest))) ++ (v ∷ (word_bytes edition ++ rest))) ≡ Ok l
unfolding letter_of byte
letter_by_content v edition rest l known low fits read =
    let bytes = v ∷ (word_bytes edition ++ rest) in
    let counted : (length bytes == length bytes) ≡ true = eq-eqb (length bytes) (length bytes) refl in
    let within : nat_le (length bytes) longest_letter ≡ true = le_passes (length bytes) longest_letter fits in
    let same : (edition == edition) ≡ true = eq-eqb edition edition refl in
    rw (word_again (length bytes) bytes (omega (arith, fits)), known, word_again edition rest low, same, counted, within, read) refl

-- the bytes of a letter behind its length, part by part
pub letter_parts : (v : ℕ) (l : LetterValue) → letter_bytes_in v l ≡ v ∷ (word_bytes l.edition ++ (l.site ∷ (short_bytes l.epoch ++ (body_bytes l.body ++ []))))
unfolding letter_bytes_in
letter_parts v l =
    let said = short_bytes l.epoch ++ body_bytes l.body in
    ap (λ (x : List ℕ). v ∷ x)
    (append_assoc (word_bytes l.edition ++ l.site ∷ []) (short_bytes l.epoch) (body_bytes l.body)
    ∙ append_assoc (word_bytes l.edition) (l.site ∷ []) said
    ∙ ap (λ (x : List ℕ). word_bytes l.edition ++ (l.site ∷ (short_bytes l.epoch ++ x))) (sym (append-nil (body_bytes l.body))))

-- the edition of a letter has 32 bits, and the letter is no longer than letters are
pub edition_low : (l : LetterValue) → is_letter l ≡ true → l.edition < 2 ^ 32
edition_low l h =
    let addressed : is_addressed l ≡ true = first_so (is_addressed l) _ (first_so (is_addressed l && is_formed l.body) _ h) in
    let three = first_so (is_unsigned l.edition && is_site l.site && is_within 1 last_epoch l.epoch) _ addressed in
    let two = first_so (is_unsigned l.edition && is_site l.site) _ three in
    ltb-true l.edition (2 ^ 32) (first_so _ _ two)

pub letter_fits : (l : LetterValue) → is_letter l ≡ true → length (letter_bytes l) ≤ longest_letter
letter_fits l h = passes_le _ longest_letter (second_so (is_addressed l && is_formed l.body) _ h)

-- it has as many bytes in each version
pub same_length : (v : ℕ) (l : LetterValue) → length (letter_bytes l) ≡ length (letter_bytes_in v l)
unfolding letter_bytes_in
same_length v l = refl

-- and fits
pub version_fits : (v : ℕ) (l : LetterValue) → is_letter l ≡ true → length (letter_bytes_in v l) ≤ longest_letter
version_fits v l h = subst (λ n. n ≤ longest_letter) (same_length v l) (letter_fits l h)

-- a letter in a version that has what it says
pub letter_again : (v : ℕ) (l : LetterValue) → is_within 1 letter_version v ≡ true → is_letter l ≡ true → has_body v l.body ≡ true → letter_of l.edition (spelling_in v l) ≡ Ok l
unfolding spelling_in
letter_again v l known h had =
    let rest = l.site ∷ (short_bytes l.epoch ++ (body_bytes l.body ++ [])) in
    let parts = letter_parts v l in
    let fits : length (v ∷ (word_bytes l.edition ++ rest)) ≤ longest_letter = subst (λ (x : List ℕ). length x ≤ longest_letter) parts (version_fits v l h) in
    ap (λ (x : List ℕ). letter_of l.edition (word_bytes (length x) ++ x)) parts ∙ letter_by_content v l.edition rest l known (edition_low l h) fits (content_again v l h had)

-- the last version has every fact
last_has : (f : Fact) → has_fact letter_version f ≡ true
last_has End = refl
last_has (Removed r) = refl
last_has (Field (OfSession FramedIpAddress) t x) = refl
last_has (Field (OfSession CalledStationId) t x) = refl
last_has (Field (OfSession SubscriptionIds) t x) = refl
last_has (Field (OfSession OriginHost) t x) = refl
last_has (Field (OfSession OriginRealm) t x) = refl
last_has (Field (OfSession RequestType) t x) = refl
last_has (Field (OfSession FramedIpv6Prefix) t x) = refl
last_has (Field (OfComponent c f) t x) = refl
last_has (Field (OfFlow c n f) t x) = refl
last_has (Field (OfRuleName n) t x) = refl
last_has Aborted = refl

-- and so all that letters say
last_has_body : (b : LetterBody) → has_body letter_version b ≡ true
last_has_body (Range from os) = all_pass (λ (o : Operation). list_all (has_fact letter_version) o.facts) os (λ o i. all_pass (has_fact letter_version) o.facts (λ f j. last_has f))
last_has_body (Snapshot h n) = all_pass (λ (g : Group). list_all (has_fact letter_version) g.1) (groups_of_facts h.facts) (λ g i. all_pass (has_fact letter_version) g.1 (λ f j. last_has f))
last_has_body (Acknowledgement m e c) = refl

-- so each letter as it is written
pub written_again : (l : LetterValue) → is_letter l ≡ true → letter_of l.edition (spelling l) ≡ Ok l
written_again l h = letter_again letter_version l refl h (last_has_body l.body)
