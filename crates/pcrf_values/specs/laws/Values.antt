-- The orders of plain values are total, and what they find equal is the same value.
use Rattle.std.specs.Prelude.{◌≡◌}
use Rattle.std.specs.Cmp.{IsTotalOrder}
use Rattle.std.proofs.lemmas.Cmp.{then_total, on_total, nat_cmp_total, nat_list_cmp_total, lists_total}
use Rattle.pcrf_values.specs.Exact.{IsExact}
use Rattle.pcrf_values.specs.laws.Exact.{nat_same, text_same, list_same, pair_same, then_parts}
use Rattle.pcrf_values.specs.Prefixes.{prefix_cmp}
use Rattle.pcrf_values.specs.Subscribers.{subscriber_cmp}
use Rattle.pcrf_values.specs.RuleValues.{rule_cmp, delta_cmp}

-- the order of subscribers is total
pub subscriber_total : IsTotalOrder subscriber_cmp
subscriber_total = then_total (on_total (λ s. s.0) nat_cmp_total) (on_total (λ s. s.1) nat_list_cmp_total)

-- subscribers that compare as equal are the same
pub subscriber_same : IsExact subscriber_cmp
subscriber_same = pair_same nat_same text_same

-- the order of prefixes is total
pub prefix_total : IsTotalOrder prefix_cmp
prefix_total = then_total (on_total (λ p. p.0) nat_cmp_total) (on_total (λ p. p.1) nat_list_cmp_total)

-- prefixes that compare as equal are the same
pub prefix_same : IsExact prefix_cmp
prefix_same = pair_same nat_same text_same

-- the order of rules is total
pub rule_total : IsTotalOrder rule_cmp
rule_total =
    then_total (on_total (λ r. r.name) nat_list_cmp_total)
    (then_total (on_total (λ r. r.status) nat_cmp_total)
    (then_total (on_total (λ r. r.filters) (lists_total nat_list_cmp_total))
    (then_total (on_total (λ r. r.qci) nat_cmp_total)
    (then_total (on_total (λ r. r.priority) nat_cmp_total)
    (then_total (on_total (λ r. r.capability) nat_cmp_total)
    (then_total (on_total (λ r. r.vulnerability) nat_cmp_total)
    (then_total (on_total (λ r. r.max_ul) nat_cmp_total)
    (then_total (on_total (λ r. r.max_dl) nat_cmp_total)
    (on_total (λ r. r.precedence) nat_cmp_total)))))))))

-- rules that compare as equal are the same
pub rule_same : IsExact rule_cmp
rule_same x y e =
    let after_name = then_parts _ _ e in
    let after_status = then_parts _ _ after_name.1 in
    let after_filters = then_parts _ _ after_status.1 in
    let after_qci = then_parts _ _ after_filters.1 in
    let after_priority = then_parts _ _ after_qci.1 in
    let after_capability = then_parts _ _ after_priority.1 in
    let after_vulnerability = then_parts _ _ after_capability.1 in
    let after_max_ul = then_parts _ _ after_vulnerability.1 in
    let last = then_parts _ _ after_max_ul.1 in
    let name : x.name ≡ y.name = text_same x.name y.name after_name.0 in
    let status : x.status ≡ y.status = nat_same x.status y.status after_status.0 in
    let filters : x.filters ≡ y.filters = list_same text_same x.filters y.filters after_filters.0 in
    let qci : x.qci ≡ y.qci = nat_same x.qci y.qci after_qci.0 in
    let priority : x.priority ≡ y.priority = nat_same x.priority y.priority after_priority.0 in
    let capability : x.capability ≡ y.capability = nat_same x.capability y.capability after_capability.0 in
    let vulnerability : x.vulnerability ≡ y.vulnerability = nat_same x.vulnerability y.vulnerability after_vulnerability.0 in
    let max_ul : x.max_ul ≡ y.max_ul = nat_same x.max_ul y.max_ul after_max_ul.0 in
    let max_dl : x.max_dl ≡ y.max_dl = nat_same x.max_dl y.max_dl last.0 in
    let precedence : x.precedence ≡ y.precedence = nat_same x.precedence y.precedence last.1 in
    λ i. record {
      name = name i;
      status = status i;
      filters = filters i;
      qci = qci i;
      priority = priority i;
      capability = capability i;
      vulnerability = vulnerability i;
      max_ul = max_ul i;
      max_dl = max_dl i;
      precedence = precedence i;
    }

-- differences that compare as equal are the same
pub delta_same : IsExact delta_cmp
delta_same x y e =
    let both = then_parts _ _ e in
    let removed : x.removed ≡ y.removed = list_same text_same x.removed y.removed both.0 in
    let installed : x.installed ≡ y.installed = list_same rule_same x.installed y.installed both.1 in
    λ i. record { removed = removed i; installed = installed i }
