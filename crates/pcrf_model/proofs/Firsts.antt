-- How many the first entries of a difference are.
use Rattle.std.proofs.Common.{ℕ, ◌+◌, ◌-◌, ◌≤◌, length, arith}
use Rattle.std.proofs.lemmas.List.{length-take}
use Rattle.pcrf_values.specs.RuleValues.{DeltaValue}
use Rattle.pcrf_model.specs.Differences.{first}

-- at most so many
pub first_is_short : (n : ℕ) (d : DeltaValue) → length (first n d).removed + length (first n d).installed ≤ n
first_is_short n d = rw (length-take n d.removed, length-take (n - length d.removed) d.installed) (omega arith)
