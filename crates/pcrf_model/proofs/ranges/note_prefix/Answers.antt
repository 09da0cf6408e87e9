use Rattle.std.proofs.Common.{◌≡◌, ◌≤◌, ℕ, true, nat_le, refl, subst, sym, arith}
use Rattle.std.proofs.lemmas.Bool.Decides.{nat_tests}
use Rattle.std.specs.List.{list_all}
use Rattle.std.specs.Ordering.{is_eq}
use Rattle.pcrf_values.specs.Orders.{text_cmp}
use Rattle.pcrf_values.proofs.OrderLaws.{text_ranked, eq_itself}
use Rattle.pcrf_values.specs.Prefixes.{address_bits, first_bits}
use Rattle.pcrf_model.specs.Forms.{is_byte}
use Rattle.pcrf_model.proofs.ranges.note_prefix.Goals as goal

pub returns : goal.returns
returns c =
    let p = c.args.prefix.now in
    let within : nat_le p.0 address_bits ≡ true = le_so p.0 address_bits (subst (λ n. n ≤ address_bits) c.bits-bits.ensures.bits c.bits-bits.ensures.within) in
    let bytes : list_all is_byte p.1 ≡ true = subst (λ bs. list_all is_byte bs ≡ true) c.octets.ensures.octets c.note_bytes.ensures in
    let past : is_eq (text_cmp (first_bits p.0 p.1) p.1) ≡ true = subst (λ bs. is_eq (text_cmp bs p.1) ≡ true) (sym c.octets.ensures.past) (eq_itself text_ranked p.1) in
    rw (within, c.octets.ensures.count, bytes, past) refl
  where
    le_so : (m o : ℕ) → m ≤ o → nat_le m o ≡ true
    le_so m o l = grind (arith, nat_tests, l)
