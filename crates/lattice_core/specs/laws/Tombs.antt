-- The laws of the join of values that can end.
use Rattle.std.specs.Prelude.{◌≡◌, refl}
use Rattle.std.proofs.Common.{ap}
use Rattle.lattice_core.specs.declared.tombed.Tombed.{Tombed}
use Rattle.lattice_core.specs.declared.tombed.Tombed.TheVariants.{Live, Ended}
use Rattle.lattice_core.specs.Tombs.{tombed_joined, tombed_valid}

module _ {T : Type 0} (join : T → T → T) where
  -- the join is commutative
  pub tombed_comm : ((x y : T) → join x y ≡ join y x) → (x y : Tombed T) → tombed_joined join x y ≡ tombed_joined join y x
  tombed_comm law (Live x) (Live y) = ap Live (law x y)
  tombed_comm law (Live x) Ended = refl
  tombed_comm law Ended (Live y) = refl
  tombed_comm law Ended Ended = refl

  -- the join is associative
  pub tombed_assoc : ((x y z : T) → join (join x y) z ≡ join x (join y z)) → (x y z : Tombed T) → tombed_joined join (tombed_joined join x y) z ≡ tombed_joined join x (tombed_joined join y z)
  tombed_assoc law (Live x) (Live y) (Live z) = ap Live (law x y z)
  tombed_assoc law (Live x) (Live y) Ended = refl
  tombed_assoc law (Live x) Ended z = refl
  tombed_assoc law Ended y z = refl

  -- the join of a value with itself is that value
  pub tombed_idem : (valid : T → Type 0) → ((x : T) → valid x → join x x ≡ x) → (x : Tombed T) → tombed_valid valid x → tombed_joined join x x ≡ x
  tombed_idem valid law (Live x) v = ap Live (law x v)
  tombed_idem valid law Ended v = refl

  -- the join of valid values is valid
  pub tombed_closed : (valid : T → Type 0) → ((x y : T) → valid x → valid y → valid (join x y)) → (x y : Tombed T) → tombed_valid valid x → tombed_valid valid y → tombed_valid valid (tombed_joined join x y)
  tombed_closed valid law (Live x) (Live y) v w = law x y v w
  tombed_closed valid law (Live x) Ended v w = tt
  tombed_closed valid law Ended y v w = tt
