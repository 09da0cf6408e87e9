-- Prefixes cover each other in an order.
use Rattle.std.proofs.lemmas.Bool.Decides.{nat_tests}
use Rattle.std.proofs.lemmas.Nat.{pow-add, pow_pos}
use Rattle.std.proofs.Math.Nat.{div-div-eq-div-mul, mul-div_cancel}
use Rattle.std.proofs.Common.{◌≡◌, ℕ, suc, ◌+◌, ◌-◌, ◌*◌, ◌/◌, ◌^◌, ◌<◌, ◌≤◌, true, nat_le, List, [], ◌∷◌, ◌++◌, take, drop, length, slice_set, slice_index_or, refl, sym, ap, ◌∙◌, subst, arith}
use Rattle.std.proofs.Math.Seq.{take-suc-set, drop-cons}
use Rattle.std.proofs.lemmas.List.{drop-set-lt, append_assoc}
use Rattle.std.specs.Cmp.{first_so, second_so}
use Rattle.std.specs.Ordering.{is_eq}
use Rattle.pcrf_values.specs.Orders.{text_cmp}
use Rattle.pcrf_values.proofs.OrderLaws.{text_ranked, eq_is, eq_itself}
use Rattle.pcrf_values.proofs.Plain.{both}
use Rattle.pcrf_values.specs.Prefixes.{Ipv6Prefix, first_of_byte, first_bits, covers}

-- a power of two as that of a lesser exponent times another
split_power : (j k : ℕ) → j ≤ k → 2 ^ k ≡ 2 ^ j * 2 ^ (k - j)
split_power j k l =
    let e : k ≡ j + (k - j) = omega (arith, l) in
    ap (λ n. 2 ^ n) e ∙ pow-add 2 j (k - j)

-- of the first bits fewer are taken as of all
fewer_of_byte : (m n b : ℕ) → m ≤ n → first_of_byte m (first_of_byte n b) ≡ first_of_byte m b
fewer_of_byte m n b l =
    let q : ℕ = 2 ^ (8 - n) in
    let r : ℕ = 2 ^ ((8 - m) - (8 - n)) in
    let p : 2 ^ (8 - m) ≡ q * r = split_power (8 - n) (8 - m) (omega (arith, l)) in
    let same : (b / q * q) / (q * r) ≡ b / (q * r) =
    sym (div-div-eq-div-mul (b / q * q) q r)
    ∙ ap (λ x. x / r) (mul-div_cancel (b / q) (pow_pos (8 - n)))
    ∙ div-div-eq-div-mul b q r in
    ap (λ x. (b / q * q) / x * x) p ∙ ap (λ x. x * (q * r)) same ∙ sym (ap (λ x. b / x * x) p)

-- and so of bytes; so what was cut to its first bits is as it is
pub fewer_bits : (m n : ℕ) (bs : List ℕ) → m ≤ n → first_bits m (first_bits n bs) ≡ first_bits m bs
fewer_bits m n [] l = refl
fewer_bits m n (b ∷ bs) l =
    let here = fewer_of_byte m n b l in
    let there = fewer_bits (m - 8) (n - 8) bs (omega (arith, l)) in
    λ i. here i ∷ there i

-- what a prefix covers is no shorter
no_shorter : (m n : ℕ) → nat_le m n ≡ true → m ≤ n
no_shorter m n h = grind (arith, nat_tests, h)

-- each covers itself
pub covers_itself : (p : Ipv6Prefix) → covers p p ≡ true
covers_itself p = both _ _ (itself p.0) (eq_itself text_ranked (first_bits p.0 p.1))
  where
    itself : (n : ℕ) → nat_le n n ≡ true
    itself n = grind (arith, nat_tests)

-- and what the second covers the first does, where it covers the second
pub covers_onward : (p q r : Ipv6Prefix) → covers p q ≡ true → covers q r ≡ true → covers p r ≡ true
covers_onward p q r h k =
    let low = first_so (nat_le p.0 q.0) _ h in
    let high = first_so (nat_le q.0 r.0) _ k in
    let l : p.0 ≤ q.0 = no_shorter p.0 q.0 low in
    let a : first_bits p.0 p.1 ≡ first_bits p.0 q.1 =
    eq_is text_ranked _ _ (second_so (nat_le p.0 q.0) _ h) in
    let b : first_bits q.0 q.1 ≡ first_bits q.0 r.1 =
    eq_is text_ranked _ _ (second_so (nat_le q.0 r.0) _ k) in
    let c : first_bits p.0 p.1 ≡ first_bits p.0 r.1 =
    a ∙ sym (fewer_bits p.0 q.0 q.1 l) ∙ ap (first_bits p.0) b ∙ fewer_bits p.0 q.0 r.1 l in
    both _ _ (through p.0 q.0 r.0 low high)
    (subst (λ (x : List ℕ). is_eq (text_cmp (first_bits p.0 p.1) x) ≡ true) c
    (eq_itself text_ranked (first_bits p.0 p.1)))
  where
    through : (m n o : ℕ) → nat_le m n ≡ true → nat_le n o ≡ true → nat_le m o ≡ true
    through m n o h k = grind (arith, nat_tests, h, k)

-- one byte more is cut to its first bits
pub cut_next : (i n : ℕ) (bs : List ℕ) → i < length bs → take (i + 1) (slice_set bs i (first_of_byte n (slice_index_or bs i 0))) ++ first_bits (n - 8) (drop (i + 1) (slice_set bs i (first_of_byte n (slice_index_or bs i 0)))) ≡ take i bs ++ first_bits n (drop i bs)
cut_next i n bs l =
    let x : ℕ = first_of_byte n (slice_index_or bs i 0) in
    let after : suc i ≡ i + 1 = omega (arith) in
    let front : take (i + 1) (slice_set bs i x) ≡ take i bs ++ (x ∷ []) =
    subst (λ k. take k (slice_set bs i x) ≡ take i bs ++ (x ∷ [])) after (take-suc-set bs i x l) in
    let back : drop (i + 1) (slice_set bs i x) ≡ drop (i + 1) bs = drop-set-lt (i + 1) bs i x (omega (arith)) in
    let whole : drop i bs ≡ slice_index_or bs i 0 ∷ drop (i + 1) bs =
    subst (λ k. drop i bs ≡ slice_index_or bs i 0 ∷ drop k bs) after (drop-cons bs i 0 l) in
    ap (λ y. y ++ first_bits (n - 8) (drop (i + 1) (slice_set bs i x))) front
    ∙ ap (λ y. (take i bs ++ (x ∷ [])) ++ first_bits (n - 8) y) back
    ∙ append_assoc (take i bs) (x ∷ []) (first_bits (n - 8) (drop (i + 1) bs))
    ∙ sym (ap (λ y. take i bs ++ first_bits n y) whole)
