-- The flows of which facts are fields.
use Rattle.std.specs.Prelude.{ℕ, Bool, false, if◌then◌else◌, List, [], ◌∷◌, Option, Some, None}
use Rattle.std.specs.declared.cmp.Ordering.{Ordering}
use Rattle.std.specs.Ordering.{is_eq, nat_cmp}
use Rattle.pcrf_values.specs.Orders.{pair_cmp}
use Rattle.af_records.specs.declared.fact.AfFact.{AfFact}
use Rattle.af_records.specs.declared.fact.AfFact.TheVariants.{Flow}

-- pairs of numbers
abbrev pub numbers_cmp : ℕ × ℕ → ℕ × ℕ → Ordering
numbers_cmp = pair_cmp nat_cmp nat_cmp

-- the flow of which the fact is a field
abbrev pub flow_said : AfFact → Option (ℕ × ℕ)
flow_said (Flow c n t x) = Some (c, n)
flow_said f = None

-- the flow is the last one
abbrev pub is_last : Option (ℕ × ℕ) → ℕ × ℕ → Bool
is_last None q = false
is_last (Some p) q = is_eq (numbers_cmp p q)

-- each once, after the last one
abbrev pub flows_after : Option (ℕ × ℕ) → List (ℕ × ℕ) → List (ℕ × ℕ)
flows_after last [] = []
flows_after last (q ∷ qs) = if is_last last q then flows_after last qs else q ∷ flows_after (Some q) qs
