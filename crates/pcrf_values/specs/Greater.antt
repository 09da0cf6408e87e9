-- The greater of two values.
use Rattle.std.specs.Prelude.{if◌then◌else◌}
use Rattle.std.specs.declared.cmp.Ordering.{Ordering}
use Rattle.std.specs.Ordering.{is_lt}

-- the second where it is above the first, else the first
abbrev pub greater : {K : Type 0} → (K → K → Ordering) → K → K → K
greater R x y = if is_lt (R x y) then y else x
