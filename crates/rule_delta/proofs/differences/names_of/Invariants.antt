-- The set has the names of the rules before the index.
use Rattle.std.proofs.Common.{◌≡◌, ℕ, List, take}
use Rattle.std.specs.BTreeSet.{contains_by}
use Rattle.std.specs.List.{list_any}
use Rattle.pcrf_values.specs.Orders.{text_cmp}
use Rattle.pcrf_model.specs.Differences.{has_name}
use Rattle.rule_delta.proofs.differences.names_of.Given as goal

abbrev pub invariant-loop-rule : goal.invariant-loop-rule
invariant-loop-rule l = (n : List ℕ) → contains_by (λ k. text_cmp n k.now) l.names ≡ list_any (has_name n) (take l.rule-index l.fn.rules)
