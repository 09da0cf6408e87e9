use Rattle.std.proofs.Common.{◌≡◌, ◌∙◌, ◌≤◌, ◌++◌, drop, replicate, subst, Some, ℕ, true, nat_le, length, sym, ap, arith}
use Rattle.std.proofs.lemmas.Bool.Decides.{nat_tests}
use Rattle.std.proofs.lemmas.List.{drop-replicate}
use Rattle.pcrf_values.specs.Prefixes.{address_bits, address_octets, first_bits, octets_for, padded}
use Rattle.pcrf_values.proofs.PrefixLaws.{fewer_bits}
use Rattle.pcrf_values.proofs.ipv6_prefix.Ipv6Prefix.of.Goals as goal

pub invariant_of-result : goal.invariant_of-result
invariant_of-result c =
    let n = c.args.bits in
    let is = c.first_octets.ensures in
    (omega (arith, c.if-bits-gt-ADDRESS_BITS.false), ap (first_bits n) is ∙ fewer_bits n n _ (omega arith) ∙ sym is)

pub returns : goal.returns
returns c =
    let n = c.args.bits in
    let bs = c.args.bytes.now in
    let few : nat_le n address_bits ≡ true = grind (arith, nat_tests, c.if-bits-gt-ADDRESS_BITS.false) in
    let enough : octets_for n ≤ length bs = subst (λ m. m ≤ length bs) c.octets_for.ensures c.if-count-octets_for.false in
    let fits : nat_le (octets_for n) (length bs) ≡ true = le_so (octets_for n) (length bs) enough in
    let short : nat_le (length bs) address_octets ≡ true = le_so (length bs) address_octets c.if-count-gt-ADDRESS_OCTETS.false in
    let whole : c.first_octets.result ≡ first_bits n (padded bs) =
    c.first_octets.ensures
    ∙ ap (λ ys. first_bits n (ys ++ drop (length bs) (replicate 16 0))) c.copy_from_slice.ensures.after
    ∙ ap (λ ys. first_bits n (bs ++ ys)) (drop-replicate (length bs) 16 0) in
    let some : Some (n, c.first_octets.result) ≡ Some (n, first_bits n (padded bs)) =
    ap (λ ys. Some (n, ys)) whole in
    rw (few, fits, short) some
  where
    le_so : (m o : ℕ) → m ≤ o → nat_le m o ≡ true
    le_so m o l = grind (arith, nat_tests, l)
