-- What a register holds: a value with its tag, or nothing.
use Rattle.std.specs.Prelude.{Option}
use Rattle.std.specs.declared.cmp.Ordering.{Ordering}
use Rattle.std.specs.Option.{option_cmp}
use Rattle.pcrf_values.specs.Greater.{greater}
use Rattle.pcrf_values.specs.Orders.{pair_cmp}
use Rattle.pcrf_values.specs.Tags.{tag_cmp}
use Rattle.pcrf_values.specs.declared.tag.Tag.{Tag}

-- nothing is below everything; then by tag, then by value
abbrev pub reg_cmp : {T : Type 0} → (T → T → Ordering) → Option (Tag × T) → Option (Tag × T) → Ordering
reg_cmp R = option_cmp (pair_cmp tag_cmp R)

-- the greater of what two registers hold
abbrev pub reg_joined : {T : Type 0} → (T → T → Ordering) → Option (Tag × T) → Option (Tag × T) → Option (Tag × T)
reg_joined R = greater (reg_cmp R)
