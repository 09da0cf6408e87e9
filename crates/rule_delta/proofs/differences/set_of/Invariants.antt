-- The set has the names before the index.
use Rattle.std.proofs.Common.{◌≡◌, ℕ, List, take}
use Rattle.std.specs.BTreeSet.{contains_by}
use Rattle.std.specs.List.{list_any}
use Rattle.std.specs.Ordering.{is_eq}
use Rattle.pcrf_values.specs.Orders.{text_cmp}
use Rattle.rule_delta.proofs.differences.set_of.Given as goal

abbrev pub invariant-loop-name : goal.invariant-loop-name
invariant-loop-name l = (n : List ℕ) → contains_by (λ k. text_cmp n k.now) l.set ≡ list_any (λ m. is_eq (text_cmp m n)) (take l.name-index l.fn.names)
