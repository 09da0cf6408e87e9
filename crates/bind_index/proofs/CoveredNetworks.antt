-- Where one prefix covers another they are listed under one network, or the first under that of all; and of two that cover a third one covers the
-- other.
use Rattle.std.proofs.lemmas.Bool.Decides.{nat_tests}
use Rattle.std.proofs.Common.{◌≡◌, ℕ, ◌≤◌, Bool, true, false, not, nat_le, List, ◌⊎◌, inl, inr, refl, sym, ap, ◌∙◌, subst, if◌then◌else◌, arith}
use Rattle.std.specs.Cmp.{first_so, second_so}
use Rattle.std.specs.Ordering.{is_eq}
use Rattle.pcrf_values.specs.Orders.{text_cmp}
use Rattle.pcrf_values.proofs.OrderLaws.{text_ranked, eq_is, eq_itself}
use Rattle.pcrf_values.proofs.Plain.{both, split}
use Rattle.pcrf_values.specs.Prefixes.{Ipv6Prefix, covers, first_bits}
use Rattle.pcrf_values.proofs.PrefixLaws.{fewer_bits}
use Rattle.bind_index.specs.Networks.{CoversInItsNetwork, all_networks, network_bits, network_of, spans_networks}

-- one that spans networks
pub network_of_all : (p : Ipv6Prefix) → spans_networks p ≡ true → network_of p ≡ all_networks
network_of_all p e = ap (λ b. if b then all_networks else (network_bits, first_bits network_bits p.1)) e

-- and one that doesn't
pub network_of_one : (p : Ipv6Prefix) → spans_networks p ≡ false → network_of p ≡ (network_bits, first_bits network_bits p.1)
network_of_one p e = ap (λ b. if b then all_networks else (network_bits, first_bits network_bits p.1)) e

-- a number that isn't below another
no_less : (m n : ℕ) → not (nat_le m n) ≡ false → m ≤ n
no_less m n h = grind (arith, nat_tests, h)

-- where one has a network's bits, so has what it covers
no_fewer : (k m n : ℕ) → not (nat_le k m) ≡ false → nat_le m n ≡ true → not (nat_le k n) ≡ false
no_fewer k m n h l = grind (arith, nat_tests, h, l)

-- where one that covers another doesn't, both are of one network
pub one_network : (p q : Ipv6Prefix) → covers p q ≡ true → spans_networks p ≡ false → network_of p ≡ network_of q
one_network p q c e =
    let l : network_bits ≤ p.0 = no_less network_bits p.0 e in
    let low : nat_le p.0 q.0 ≡ true = first_so (nat_le p.0 q.0) _ c in
    let same : first_bits p.0 p.1 ≡ first_bits p.0 q.1 = eq_is text_ranked _ _ (second_so (nat_le p.0 q.0) _ c) in
    let bits : first_bits network_bits p.1 ≡ first_bits network_bits q.1 =
    sym (fewer_bits network_bits p.0 p.1 l) ∙ ap (first_bits network_bits) same ∙ fewer_bits network_bits p.0 q.1 l in
    network_of_one p e ∙ (λ i. (network_bits, bits i)) ∙ sym (network_of_one q (no_fewer network_bits p.0 q.0 e low))

pub covers_in_its_network : CoversInItsNetwork
covers_in_its_network p q c = elim (split (spans_networks p)) [ inl e ↦ inl (network_of_all p e) | inr e ↦ inr (one_network p q c e) ]

-- ---- two that cover a third

-- the shorter of two that cover a third covers the other
shorter_covers : (p q r : Ipv6Prefix) → nat_le p.0 q.0 ≡ true → covers p r ≡ true → covers q r ≡ true → covers p q ≡ true
shorter_covers p q r low c d =
    let l : p.0 ≤ q.0 = no_longer p.0 q.0 low in
    let a : first_bits p.0 p.1 ≡ first_bits p.0 r.1 = eq_is text_ranked _ _ (second_so (nat_le p.0 r.0) _ c) in
    let b : first_bits q.0 q.1 ≡ first_bits q.0 r.1 = eq_is text_ranked _ _ (second_so (nat_le q.0 r.0) _ d) in
    let same : first_bits p.0 p.1 ≡ first_bits p.0 q.1 =
    a ∙ sym (fewer_bits p.0 q.0 r.1 l) ∙ ap (first_bits p.0) (sym b) ∙ fewer_bits p.0 q.0 q.1 l in
    both _ _ low (subst (λ (x : List ℕ). is_eq (text_cmp (first_bits p.0 p.1) x) ≡ true) same (eq_itself text_ranked (first_bits p.0 p.1)))
  where
    no_longer : (m n : ℕ) → nat_le m n ≡ true → m ≤ n
    no_longer m n h = grind (arith, nat_tests, h)

-- so one of them covers the other
pub either_covers : (p q r : Ipv6Prefix) → covers p r ≡ true → covers q r ≡ true → (covers p q ≡ true) ⊎ (covers q p ≡ true)
either_covers p q r c d = elim (split (nat_le p.0 q.0)) [
  | inl low ↦ inl (shorter_covers p q r low c d)
  | inr high ↦ inr (shorter_covers q p r (other_way p.0 q.0 high) d c)
]
  where
    other_way : (m n : ℕ) → nat_le m n ≡ false → nat_le n m ≡ true
    other_way m n h = grind (arith, nat_tests, h)
