-- The order of tags is total, and two tags that compare as equal are the same tag.
use Rattle.std.specs.Prelude.{◌≡◌}
use Rattle.std.specs.Cmp.{IsTotalOrder}
use Rattle.std.proofs.lemmas.Cmp.{then_total, on_total, nat_cmp_total}
use Rattle.pcrf_values.specs.Exact.{IsExact}
use Rattle.pcrf_values.specs.laws.Exact.{nat_same, then_parts}
use Rattle.pcrf_values.specs.Tags.{tag_cmp}

-- the order of tags is total
pub tag_total : IsTotalOrder tag_cmp
tag_total = then_total (on_total (λ t. t.number) nat_cmp_total) (then_total (on_total (λ t. t.counter) nat_cmp_total) (on_total (λ t. t.site) nat_cmp_total))

-- tags that compare as equal are the same
pub tag_same : IsExact tag_cmp
tag_same x y e =
    let first = then_parts _ _ e in
    let second = then_parts _ _ first.1 in
    let number : x.number ≡ y.number = nat_same x.number y.number first.0 in
    let counter : x.counter ≡ y.counter = nat_same x.counter y.counter second.0 in
    let site : x.site ≡ y.site = nat_same x.site y.site second.1 in
    λ i. record { number = number i; counter = counter i; site = site i }
