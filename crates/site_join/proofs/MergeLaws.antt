-- Merging is commutative, associative, and idempotent on what is kept.
use Rattle.std.proofs.Common.{◌≡◌, sym, ap, ◌∙◌}
use Rattle.pcrf_model.specs.Holdings.{Holding, union, kept_of}
use Rattle.pcrf_model.proofs.UnionLaws.{union_comm, union_assoc, kept_of-union, union_twice}
use Rattle.site_join.specs.States.{merge_of}

-- in the other order
pub merged_comm : (h k : Holding) → merge_of h k ≡ merge_of k h
merged_comm h k = ap kept_of (union_comm h k)

-- what is kept of the second and of more is what is kept of all
kept_of-right : (h k : Holding) → kept_of (union h (kept_of k)) ≡ kept_of (union h k)
kept_of-right h k = ap kept_of (union_comm h (kept_of k)) ∙ kept_of-union k h ∙ ap kept_of (union_comm k h)

-- three put together
pub merged_assoc : (h k l : Holding) → merge_of (merge_of h k) l ≡ merge_of h (merge_of k l)
merged_assoc h k l = kept_of-union (union h k) l ∙ ap kept_of (union_assoc h k l) ∙ sym (kept_of-right h (union k l))

-- with itself
pub merged_idem : (h : Holding) → kept_of h ≡ h → merge_of h h ≡ h
merged_idem h e = union_twice h ∙ e
