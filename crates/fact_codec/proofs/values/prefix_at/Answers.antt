use Rattle.std.proofs.Common.{◌≡◌, ℕ, ◌∙◌, ◌&&◌, nat_le, List, ◌∷◌, ◌++◌, length, take, Some, sym, ap}
use Rattle.std.specs.Ordering.{is_eq}
use Rattle.pcrf_values.specs.Orders.{text_cmp}
use Rattle.pcrf_values.proofs.OrderLaws.{eq_is, text_ranked}
use Rattle.pcrf_values.proofs.Plain.{came_from, some_same}
use Rattle.pcrf_values.specs.Prefixes.{Ipv6Prefix, address_bits, address_octets, first_bits, octets_for, padded}
use Rattle.fact_codec.proofs.values.prefix_at.Goals as goal

pub returns-clause-spelled : goal.returns-clause-spelled
returns-clause-spelled c =
    let n = c.in_ok-bits.bits in
    let bs = c.in_ok-octets.octets.now in
    let p = c.in-Some.prefix in
    let rest = c.in_ok-octets.rest.now in
    let whole : Ipv6Prefix = (n, first_bits n (padded bs)) in
    let made = came_from (nat_le n address_bits && nat_le (octets_for n) (length bs) && nat_le (length bs) address_octets) (Some whole) p (sym c.in-Some.ensures) in
    let bits : n ≡ p.0 = ap (λ (q : Ipv6Prefix). q.0) (some_same whole p made.1) in
    let passed = c.is_eq.ensures ∙ ap is_eq (c.cmp.ensures ∙ ap (λ s. text_cmp s bs) c.needed.ensures) in
    let same : take (octets_for p.0) p.1 ≡ bs = eq_is text_ranked (take (octets_for p.0) p.1) bs (sym passed ∙ c.if-not-is_eq.false) in
    c.in_ok-bits.ensures.spelled
    ∙ ap (λ (l : List ℕ). n ∷ l) c.in_ok-octets.ensures.spelled
    ∙ (λ i. bits i ∷ (sym same i ++ rest))
