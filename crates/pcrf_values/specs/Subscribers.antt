-- The order of subscribers.
use Rattle.std.specs.Prelude.{ℕ, List}
use Rattle.std.proofs.Common.{Ordering}
use Rattle.std.specs.Ordering.{nat_cmp}
use Rattle.pcrf_values.specs.Orders.{pair_cmp, text_cmp}

-- subscribers, each a type and its data: by type, and then by data
abbrev pub subscriber_cmp : ℕ × List ℕ → ℕ × List ℕ → Ordering
subscriber_cmp = pair_cmp nat_cmp text_cmp
