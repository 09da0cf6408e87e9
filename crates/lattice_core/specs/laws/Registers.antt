-- The laws of the join of registers.
use Rattle.std.specs.Prelude.{◌≡◌, Option}
use Rattle.std.specs.declared.cmp.Ordering.{Ordering}
use Rattle.std.specs.Cmp.{IsTotalOrder}
use Rattle.std.specs.Cmp.Lexicographic.{options_total}
use Rattle.std.proofs.lemmas.Cmp.{then_total, on_total}
use Rattle.pcrf_values.specs.declared.tag.Tag.{Tag}
use Rattle.pcrf_values.specs.Exact.{IsExact}
use Rattle.pcrf_values.specs.laws.Exact.{option_same, pair_same}
use Rattle.pcrf_values.specs.laws.Tags.{tag_total, tag_same}
use Rattle.pcrf_values.specs.laws.Greater.{greater_comm, greater_assoc, greater_idem}
use Rattle.lattice_core.specs.Registers.{reg_cmp, reg_joined}

module _ {T : Type 0} {R : T → T → Ordering} (o : IsTotalOrder R) where
  -- the order of what registers hold is total
  reg_total : IsTotalOrder (reg_cmp R)
  reg_total = options_total (then_total (on_total (λ p. p.0) tag_total) (on_total (λ p. p.1) o))

  -- the join is commutative
  pub reg_comm : IsExact R → (x y : Option (Tag × T)) → reg_joined R x y ≡ reg_joined R y x
  reg_comm s = greater_comm reg_total (option_same (pair_same tag_same s))

  -- the join is associative
  pub reg_assoc : (x y z : Option (Tag × T)) → reg_joined R (reg_joined R x y) z ≡ reg_joined R x (reg_joined R y z)
  reg_assoc = greater_assoc reg_total

  -- the join of what is held with itself is just that
  pub reg_idem : (x : Option (Tag × T)) → reg_joined R x x ≡ x
  reg_idem = greater_idem (reg_cmp R)
