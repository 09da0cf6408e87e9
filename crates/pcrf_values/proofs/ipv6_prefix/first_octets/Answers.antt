use Rattle.std.proofs.Common.{◌+◌, ◌-◌, ◌∙◌, ◌++◌, ◌≤◌, ℕ, take, drop, length, slice_set, ap, sym, arith}
use Rattle.std.proofs.lemmas.List.{append-nil, take_all, drop_all, length-set}
use Rattle.pcrf_values.specs.Prefixes.{first_bits}
use Rattle.pcrf_values.proofs.PrefixLaws.{cut_next}
use Rattle.pcrf_values.proofs.ipv6_prefix.first_octets.Goals as goal

pub each-preserved : goal.each-preserved
each-preserved c =
    let i = c.each.place in
    let bs = c.each.octets in
    let cut = λ (n x : ℕ). take (i + 1) (slice_set bs i x) ++ first_bits n (drop (i + 1) (slice_set bs i x)) in
    record {
      count = length-set bs i c.first_of_octet.result ∙ c.each.invariant.count;
      cut =
          ap (λ n. cut n c.first_of_octet.result) c.saturating_sub-left.ensures
          ∙ ap (cut (c.each.left - 8)) c.first_of_octet.ensures
          ∙ cut_next i c.each.left bs (omega (arith, c.each-test.true, c.each.invariant.count))
          ∙ c.each.invariant.cut;
    }

pub returns : goal.returns
returns c =
    let bs = c.each.octets in
    let done : length bs ≤ c.each.place = omega (arith, c.each-test.false, c.each.invariant.count) in
    sym (take_all c.each.place bs done)
    ∙ sym (append-nil (take c.each.place bs))
    ∙ sym (ap (λ ys. take c.each.place bs ++ first_bits c.each.left ys) (drop_all c.each.place bs done))
    ∙ c.each.invariant.cut
