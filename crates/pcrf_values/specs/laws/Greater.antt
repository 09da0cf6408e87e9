-- The laws of the greater of two values.
use Rattle.std.specs.Prelude.{◌≡◌, Bool, true, false, if◌then◌else◌, refl}
use Rattle.std.specs.declared.cmp.Ordering.{Ordering}
use Rattle.std.specs.declared.cmp.Ordering.TheVariants.{Less, Equal, Greater}
use Rattle.std.specs.Ordering.{is_lt, is_gt, ordering_reverse}
use Rattle.std.specs.Cmp.{IsTotalOrder}
use Rattle.std.proofs.Common.{ap, sym, ◌∙◌}
use Rattle.std.proofs.lemmas.Cmp.{upto}
use Rattle.pcrf_values.specs.Exact.{IsExact}
use Rattle.pcrf_values.specs.Greater.{greater}

-- either way the same
either_same : {K : Type 0} (b : Bool) (x : K) → (if b then x else x) ≡ x
either_same true x = refl
either_same false x = refl

-- a value is the greater of itself and itself
pub greater_idem : {K : Type 0} (R : K → K → Ordering) (x : K) → greater R x x ≡ x
greater_idem R x = either_same (is_lt (R x x)) x

module _ {K : Type 0} {R : K → K → Ordering} (o : IsTotalOrder R) where
  -- a test, read from the other side
  turned : (p q : Ordering) → p ≡ ordering_reverse q → is_lt p ≡ is_gt q
  turned p Less e = ap is_lt e
  turned p Equal e = ap is_lt e
  turned p Greater e = ap is_lt e

  -- one is below the other where that is above the one
  lt_is_gt : (x y : K) → is_lt (R x y) ≡ is_gt (R y x)
  lt_is_gt x y = turned (R x y) (R y x) (o.antisymm x y)

  -- the greater, where the test is known
  picks_second : (x y : K) → is_lt (R x y) ≡ true → greater R x y ≡ y
  picks_second x y e = ap (λ b. if b then y else x) e

  -- not below, so the first
  picks_first : (x y : K) → is_lt (R x y) ≡ false → greater R x y ≡ x
  picks_first x y e = ap (λ b. if b then y else x) e

  -- by both comparisons
  comm_at : IsExact R → (x y : K) (p q : Ordering) → R x y ≡ p → R y x ≡ q → p ≡ ordering_reverse q → (if is_lt p then y else x) ≡ (if is_lt q then x else y)
  comm_at s x y Less Less e f r = absurd (cc)
  comm_at s x y Less Equal e f r = absurd (cc)
  comm_at s x y Less Greater e f r = refl
  comm_at s x y Equal Less e f r = absurd (cc)
  comm_at s x y Equal Equal e f r = s x y e
  comm_at s x y Equal Greater e f r = absurd (cc)
  comm_at s x y Greater Less e f r = refl
  comm_at s x y Greater Equal e f r = absurd (cc)
  comm_at s x y Greater Greater e f r = absurd (cc)

  -- the greater is the same either way round
  pub greater_comm : IsExact R → (x y : K) → greater R x y ≡ greater R y x
  greater_comm s x y = comm_at s x y (R x y) (R y x) refl refl (o.antisymm x y)

  -- what the test for below holds of
  is_lt_Less : (p : Ordering) → is_lt p ≡ true → p ≡ Less
  is_lt_Less Less e = refl
  is_lt_Less Equal e = absurd (cc)
  is_lt_Less Greater e = absurd (cc)

  -- by both tests
  assoc_at : (x y z : K) (p q : Bool) → is_lt (R x y) ≡ p → is_lt (R y z) ≡ q → greater R (greater R x y) z ≡ greater R x (greater R y z)
  assoc_at x y z true true e f =
      let past : R x z ≡ Less = o.trans x y z (is_lt_Less (R x y) e) (is_lt_Less (R y z) f) in
      ap (λ v. greater R v z) (picks_second x y e) ∙ picks_second y z f ∙ sym (picks_second x z (ap is_lt past)) ∙ sym (ap (λ v. greater R x v) (picks_second y z f))
  assoc_at x y z true false e f =
      ap (λ v. greater R v z) (picks_second x y e) ∙ picks_first y z f ∙ sym (picks_second x y e) ∙ sym (ap (λ v. greater R x v) (picks_first y z f))
  assoc_at x y z false true e f =
      ap (λ v. greater R v z) (picks_first x y e) ∙ sym (ap (λ v. greater R x v) (picks_second y z f))
  assoc_at x y z false false e f =
      let stays : is_lt (R x z) ≡ false = lt_is_gt x z ∙ upto o z y x (sym (lt_is_gt y z) ∙ f) (sym (lt_is_gt x y) ∙ e) in
      ap (λ v. greater R v z) (picks_first x y e) ∙ picks_first x z stays ∙ sym (picks_first x y e) ∙ sym (ap (λ v. greater R x v) (picks_first y z f))

  -- the greatest of three, in either grouping
  pub greater_assoc : (x y z : K) → greater R (greater R x y) z ≡ greater R x (greater R y z)
  greater_assoc x y z = assoc_at x y z (is_lt (R x y)) (is_lt (R y z)) refl refl
