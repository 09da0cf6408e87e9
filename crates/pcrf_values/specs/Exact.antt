-- Comparisons by which equals are the same value.
use Rattle.std.specs.Prelude.{◌≡◌}
use Rattle.std.specs.declared.cmp.Ordering.{Ordering}
use Rattle.std.specs.declared.cmp.Ordering.TheVariants.{Equal}

-- a comparison that answers `Equal` at one value alone
abbrev pub IsExact : {K : Type 0} → (K → K → Ordering) → Type 0
IsExact {K} R = (x y : K) → R x y ≡ Equal → x ≡ y
