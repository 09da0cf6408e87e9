-- The set has the pairs before the index.
use Rattle.std.proofs.Common.{◌≡◌, take}
use Rattle.std.specs.BTreeSet.{contains_by}
use Rattle.pcrf_values.specs.Orders.{pair_cmp, text_cmp}
use Rattle.pcrf_values.specs.RuleValues.{RuleValue, rule_cmp}
use Rattle.pcrf_model.specs.Differences.{holds}
use Rattle.rule_delta.proofs.differences.pairs_of.Given as goal

abbrev pub invariant-loop-name : goal.invariant-loop-name
invariant-loop-name l = (r : RuleValue) → contains_by (λ k. pair_cmp text_cmp rule_cmp (r.name, r) (k.0.now, k.1.now)) l.pairs ≡ holds (take l.name-index l.fn.told) r
