-- What is spelled so is read again, whatever follows it: texts and values.
use Rattle.std.proofs.Common.{◌≡◌, ℕ, zero, suc, ◌-◌, ◌^◌, ◌<◌, ◌≤◌, ◌==◌, Bool, true, ◌&&◌, nat_le, List, [], ◌∷◌, ◌++◌, length, take, drop, get_or, replicate, Some, refl, sym, ap, subst, ◌∙◌, append_assoc, arith, ltb-true, eqb-true}
use Rattle.std.proofs.lemmas.Bool.Decides.{nat_tests}
use Rattle.std.proofs.lemmas.List.{take_all, length-take}
use Rattle.std.specs.Cmp.{first_so, second_so}
use Rattle.std.specs.List.{flat_map, list_all}
use Rattle.std.specs.Ordering.{is_eq}
use Rattle.pcrf_values.specs.Orders.{text_cmp}
use Rattle.pcrf_values.proofs.OrderLaws.{eq_is, eq_itself, text_ranked}
use Rattle.pcrf_values.specs.Limits.{apn_limit, subscription_data_limit, subscribers_limit, filters_limit, filter_limit}
use Rattle.pcrf_values.specs.Prefixes.{Ipv6Prefix, address_bits, address_octets, first_of_byte, first_bits, octets_for, padded, prefix_from}
use Rattle.pcrf_values.specs.RuleValues.{RuleValue}
use Rattle.pcrf_values.specs.Subscribers.{subscriber_cmp}
use Rattle.pcrf_values.specs.Texts.{one_to, small_letters}
use Rattle.pcrf_values.specs.Values.{Subscriber}
use Rattle.pcrf_model.specs.Forms.{is_within, is_unsigned, is_text, is_rising, is_address, is_apn, is_byte, is_prefix, is_subscriber, are_subscribers, are_filters, is_rule}
use Rattle.pcrf_model.proofs.FormLaws.{within_most}
use Rattle.fact_codec.specs.Spelling.{prefix_bytes, short_bytes, word_bytes, text_bytes, subscriber_bytes, filters_bytes, class_bytes, rule_bytes}
use Rattle.fact_codec.specs.Reading.{Reader, many, byte, word, exactly}
use Rattle.fact_codec.specs.Said.{byte_within, word_within, text, apn_name, octets, prefix, subscriber, subscribers, filters, rule}
use Rattle.fact_codec.proofs.NumberLaws.{short_again, word_again, exactly_again}

-- ---- lists

-- values of which each is read again are read again, so many of them
pub many_again : {A : Type 0} (r : Reader A) (spell : A → List ℕ) (ok : A → Bool) → ((x : A) (rest : List ℕ) → ok x ≡ true → r (spell x ++ rest) ≡ Some (x, rest))
    → (xs : List A) (rest : List ℕ) → list_all ok xs ≡ true → many r (length xs) (flat_map spell xs ++ rest) ≡ Some (xs, rest)
unfolding many
many_again r spell ok each [] rest h = refl
many_again r spell ok each (x ∷ xs) rest h =
    let parts : flat_map spell (x ∷ xs) ++ rest ≡ spell x ++ (flat_map spell xs ++ rest) = append_assoc (spell x) (flat_map spell xs) rest in
    let first = each x (flat_map spell xs ++ rest) (first_so (ok x) _ h) in
    let others = many_again r spell ok each xs rest (second_so (ok x) _ h) in
    rw (parts, first, others) refl

-- a list of 1 to the most is itself
one_to_itself : {A : Type 0} (most : ℕ) (xs : List A) → is_within 1 most (length xs) ≡ true → one_to most xs ≡ Some xs
one_to_itself most xs h = rw h refl

-- ---- numbers and texts

-- a byte within its range
pub byte_within_again : (least most n : ℕ) (rest : List ℕ) → is_within least most n ≡ true → byte_within least most (n ∷ rest) ≡ Some (n, rest)
unfolding byte_within byte
byte_within_again least most n rest h = rw h refl

-- four bytes within theirs
pub word_within_again : (least most n : ℕ) (rest : List ℕ) → most < 2 ^ 32 → is_within least most n ≡ true → word_within least most (word_bytes n ++ rest) ≡ Some (n, rest)
unfolding word_within
word_within_again least most n rest lt h =
    let low : n < 2 ^ 32 = omega (arith, within_most least most n h) in
    rw (word_again n rest low, h) refl

-- a number of 32 bits
pub unsigned_again : (n : ℕ) (rest : List ℕ) → is_unsigned n ≡ true → word (word_bytes n ++ rest) ≡ Some (n, rest)
unsigned_again n rest h = word_again n rest (ltb-true n (2 ^ 32) h)

-- a text
pub text_again : (most : ℕ) (t rest : List ℕ) → most < 2 ^ 16 → is_text most t ≡ true → text most (text_bytes t ++ rest) ≡ Some (t, rest)
unfolding text
text_again most t rest lt h =
    let within : is_within 1 most (length t) ≡ true = first_so _ _ h in
    let low : length t < 2 ^ 16 = omega (arith, within_most 1 most (length t) within) in
    rw (append_assoc (short_bytes (length t)) t rest, short_again (length t) (t ++ rest) low, exactly_again t rest, within) refl

-- the name of an access point
pub apn_again : (t rest : List ℕ) → is_apn t ≡ true → apn_name (text_bytes t ++ rest) ≡ Some (t, rest)
unfolding apn_name
apn_again t rest h =
    let small : small_letters t ≡ t = eq_is text_ranked (small_letters t) t (second_so (is_text apn_limit t) _ h) in
    let within : is_within 1 apn_limit (length t) ≡ true = first_so _ _ (first_so _ _ h) in
    let low : length t < 2 ^ 16 = omega (arith, within_most 1 apn_limit (length t) within) in
    let same : is_eq (text_cmp t t) ≡ true = ap (λ u. is_eq (text_cmp u t)) (sym small) ∙ second_so (is_text apn_limit t) _ h in
    rw (append_assoc (short_bytes (length t)) t rest, short_again (length t) (t ++ rest) low, exactly_again t rest, small, within, same) refl

-- ---- values

-- an address
pub octets_again : (a rest : List ℕ) → is_address a ≡ true → octets (length a ∷ [] ++ a ++ rest) ≡ Some (a, rest)
unfolding octets byte
octets_again a rest h =
    let four : (length a == 4) ≡ true = first_so _ _ h in
    let is : length a ≡ 4 = eqb-true (length a) 4 four in
    let taken : exactly 4 (a ++ rest) ≡ Some (a, rest) = ap (λ n. exactly n (a ++ rest)) (sym is) ∙ exactly_again a rest in
    rw (four, taken) refl

-- what is zero past n bits is its first bytes, and zeros
zeros_past : (n : ℕ) (bs : List ℕ) → list_all is_byte bs ≡ true → first_bits n bs ≡ bs → take (octets_for n) bs ++ replicate (length bs - octets_for n) 0 ≡ bs
zeros_past n [] h z =
    let k = octets_for n in
    let none : 0 - k ≡ 0 = omega arith in
    ap (λ m. take k [] ++ replicate m 0) none ∙ ap (λ l. l ++ []) (take_all {A = ℕ} k [] (omega arith))
zeros_past n (b ∷ bs) h z = by (zeros_past (n - 8) bs (second_so (is_byte b) _ h) (ap (drop 1) z)) (octets_for n) refl
  where
    low : b < 2 ^ 8
    low = ltb-true b (2 ^ 8) (first_so (is_byte b) _ h)

    here : first_of_byte n b ≡ b
    here = ap (λ (l : List ℕ). get_or l 0 0) z

    by : take (octets_for (n - 8)) bs ++ replicate (length bs - octets_for (n - 8)) 0 ≡ bs → (k : ℕ) → octets_for n ≡ k → take k (b ∷ bs) ++ replicate (length (b ∷ bs) - k) 0 ≡ b ∷ bs
    by more zero e =
        let no_bits : n ≡ 0 = omega (arith, e) in
        let no_more : octets_for (n - 8) ≡ 0 = omega (arith, no_bits) in
        let cut : first_of_byte 0 b ≡ b = subst (λ m. first_of_byte m b ≡ b) no_bits here in
        let nought : 0 ≡ b = omega (arith, cut, low) in
        let rest : take 0 bs ++ replicate (length bs - 0) 0 ≡ bs = subst (λ k. take k bs ++ replicate (length bs - k) 0 ≡ bs) no_more more in
        let len : length (b ∷ bs) - 0 ≡ suc (length bs - 0) = omega arith in
        ap (λ m. take 0 (b ∷ bs) ++ replicate m 0) len ∙ (λ i. nought i ∷ rest i)
    by more (suc k) e =
        let fewer : octets_for (n - 8) ≡ k = omega (arith, e) in
        let rest : take k bs ++ replicate (length bs - k) 0 ≡ bs = subst (λ k. take k bs ++ replicate (length bs - k) 0 ≡ bs) fewer more in
        let len : length (b ∷ bs) - suc k ≡ length bs - k = omega arith in
        ap (λ m. b ∷ (take k bs ++ replicate m 0)) len ∙ ap (λ l. b ∷ l) rest

-- an IPv6 prefix
pub prefix_again : (p : Ipv6Prefix) (rest : List ℕ) → is_prefix p ≡ true → prefix (prefix_bytes p ++ rest) ≡ Some (p, rest)
unfolding prefix byte
prefix_again p rest h =
    let n = p.0 in
    let bs = p.1 in
    let k = octets_for n in
    let front = take k bs in
    let three = first_so (nat_le n address_bits && length bs == address_octets && list_all is_byte bs) _ h in
    let two = first_so (nat_le n address_bits && length bs == address_octets) _ three in
    let past : first_bits n bs ≡ bs = eq_is text_ranked (first_bits n bs) bs (second_so (nat_le n address_bits && length bs == address_octets && list_all is_byte bs) _ h) in
    let bytes : list_all is_byte bs ≡ true = second_so (nat_le n address_bits && length bs == address_octets) _ three in
    let few : nat_le n address_bits ≡ true = first_so _ _ two in
    let all : length bs ≡ address_octets = eqb-true (length bs) address_octets (second_so (nat_le n address_bits) _ two) in
    let within : n ≤ address_bits = le_is n address_bits few in
    let long : length front ≡ k = omega (arith, length-take k bs, all, within) in
    let taken : exactly k (front ++ rest) ≡ Some (front, rest) = ap (λ m. exactly m (front ++ rest)) (sym long) ∙ exactly_again front rest in
    let enough : nat_le k (length front) ≡ true = le_so k (length front) (omega (arith, long)) in
    let short : nat_le (length front) address_octets ≡ true = le_so (length front) address_octets (omega (arith, long, within)) in
    let room : address_octets - length front ≡ length bs - k = omega (arith, long, all) in
    let whole : first_bits n (padded front) ≡ bs = ap (λ m. first_bits n (front ++ replicate m 0)) room ∙ ap (first_bits n) (zeros_past n bs bytes past) ∙ past in
    let same : Some (n, first_bits n (padded front)) ≡ Some (n, bs) = ap (λ l. Some (n, l)) whole in
    let made : prefix_from n front ≡ Some (n, bs) = rw (few, enough, short) same in
    rw (taken, made, eq_itself text_ranked front) refl
  where
    le_so : (m o : ℕ) → m ≤ o → nat_le m o ≡ true
    le_so m o l = grind (arith, nat_tests, l)

    le_is : (m o : ℕ) → nat_le m o ≡ true → m ≤ o
    le_is m o h = grind (arith, nat_tests, h)

-- a subscriber
pub subscriber_again : (s : Subscriber) (rest : List ℕ) → is_subscriber s ≡ true → subscriber (subscriber_bytes s ++ rest) ≡ Some (s, rest)
unfolding subscriber
subscriber_again s rest h =
    rw (byte_within_again 0 4 s.0 (text_bytes s.1 ++ rest) (first_so _ _ h), text_again subscription_data_limit s.1 rest (omega arith) (second_so (is_within 0 4 s.0) _ h)) refl

-- subscribers
pub subscribers_again : (ss : List Subscriber) (rest : List ℕ) → are_subscribers ss ≡ true → subscribers (short_bytes (length ss) ++ flat_map subscriber_bytes ss ++ rest) ≡ Some (ss, rest)
unfolding subscribers
subscribers_again ss rest h =
    let two = first_so (is_within 1 subscribers_limit (length ss) && list_all is_subscriber ss) _ h in
    let within : is_within 1 subscribers_limit (length ss) ≡ true = first_so _ _ two in
    let each : list_all is_subscriber ss ≡ true = second_so (is_within 1 subscribers_limit (length ss)) _ two in
    let rising : is_rising subscriber_cmp ss ≡ true = second_so (is_within 1 subscribers_limit (length ss) && list_all is_subscriber ss) _ h in
    let low : length ss < 2 ^ 16 = omega (arith, within_most 1 subscribers_limit (length ss) within) in
    let parts = append_assoc (short_bytes (length ss)) (flat_map subscriber_bytes ss) rest in
    rw (parts, short_again (length ss) (flat_map subscriber_bytes ss ++ rest) low, many_again subscriber subscriber_bytes is_subscriber subscriber_again ss rest each, rising, within) refl

-- filters
pub filters_again : (fs : List (List ℕ)) (rest : List ℕ) → are_filters fs ≡ true → filters (filters_bytes fs ++ rest) ≡ Some (fs, rest)
unfolding filters byte
filters_again fs rest h =
    let within : is_within 1 filters_limit (length fs) ≡ true = first_so _ _ h in
    let each : list_all (is_text filter_limit) fs ≡ true = second_so (is_within 1 filters_limit (length fs)) _ h in
    rw (many_again (text filter_limit) text_bytes (is_text filter_limit) (λ t more k. text_again filter_limit t more (omega arith) k) fs rest each, within) refl

-- the form of a rule, by parts
record IsFormed (r : RuleValue) : Type 0 where
  status : is_within 0 3 r.status ≡ true
  filters : are_filters r.filters ≡ true
  qci : is_within 1 9 r.qci ≡ true
  priority : is_within 1 15 r.priority ≡ true
  capability : is_within 0 1 r.capability ≡ true
  vulnerability : is_within 0 1 r.vulnerability ≡ true
  max_ul : is_unsigned r.max_ul ≡ true
  max_dl : is_unsigned r.max_dl ≡ true
  precedence : is_unsigned r.precedence ≡ true

-- is what passes the test
formed_rule : (r : RuleValue) → is_rule r ≡ true → IsFormed r
formed_rule r h =
    let h5 = first_so _ _ h in
    let h4 = first_so _ _ h5 in
    let h3 = first_so _ _ h4 in
    let h2 = first_so _ _ h3 in
    let class = second_so _ _ h3 in
    let c3 = first_so _ _ class in
    let c2 = first_so _ _ c3 in
    record {
      status = first_so _ _ h2;
      filters = second_so _ _ h2;
      qci = first_so _ _ c2;
      priority = second_so _ _ c2;
      capability = second_so _ _ c3;
      vulnerability = second_so _ _ class;
      max_ul = second_so _ _ h4;
      max_dl = second_so _ _ h5;
      precedence = second_so _ _ h;
    }

-- a rule under its name
pub rule_again : (r : RuleValue) (rest : List ℕ) → is_rule r ≡ true → rule r.name (rule_bytes r ++ rest) ≡ Some (r, rest)
unfolding rule rule_bytes
rule_again r rest h =
    let f = formed_rule r h in
    let tail = word_bytes r.precedence ++ rest in
    let downs = word_bytes r.max_dl ++ tail in
    let ups = word_bytes r.max_ul ++ downs in
    let classed = r.qci ∷ r.priority ∷ r.capability ∷ r.vulnerability ∷ ups in
    let parts : rule_bytes r ++ rest ≡ r.status ∷ (filters_bytes r.filters ++ classed) =
    ap (λ (x : List ℕ). r.status ∷ x)
    (append_assoc (filters_bytes r.filters ++ class_bytes r) (word_bytes r.precedence) rest
    ∙ append_assoc (filters_bytes r.filters) (class_bytes r) tail
    ∙ ap (λ (x : List ℕ). filters_bytes r.filters ++ (r.qci ∷ r.priority ∷ r.capability ∷ r.vulnerability ∷ x)) (append_assoc (word_bytes r.max_ul) (word_bytes r.max_dl) tail)) in
    rw (
      parts,
      byte_within_again 0 3 r.status (filters_bytes r.filters ++ classed) f.status,
      filters_again r.filters classed f.filters,
      byte_within_again 1 9 r.qci (r.priority ∷ r.capability ∷ r.vulnerability ∷ ups) f.qci,
      byte_within_again 1 15 r.priority (r.capability ∷ r.vulnerability ∷ ups) f.priority,
      byte_within_again 0 1 r.capability (r.vulnerability ∷ ups) f.capability,
      byte_within_again 0 1 r.vulnerability ups f.vulnerability,
      unsigned_again r.max_ul downs f.max_ul,
      unsigned_again r.max_dl tail f.max_dl,
      unsigned_again r.precedence rest f.precedence,
    ) refl
