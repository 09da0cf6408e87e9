-- Lists that rise: told step by step, and as sets.
use Rattle.std.proofs.Common.{◌≡◌, ℕ, length, nat_le, Bool, true, false, ◌&&◌, List, [], ◌∷◌, Some, refl, sym, ap, ◌∙◌, Ordering}
use Rattle.std.specs.Ordering.{is_lt}
use Rattle.std.specs.List.{slice_get}
use Rattle.pcrf_values.specs.Ascending.{ascending}
use Rattle.pcrf_values.proofs.AscendingLaws.{ascending-itself}
use Rattle.pcrf_values.proofs.OrderLaws.{IsRanked}
use Rattle.pcrf_values.proofs.Plain.{came_from, lt_less, none_some, some_same}
use Rattle.pcrf_values.specs.Texts.{one_to}
use Rattle.pcrf_model.specs.Forms.{is_rising}
use Rattle.pcrf_model.proofs.FormLaws.{all_pass, rises_by_test}

-- a list that is short enough is itself
pub one_to_is : {A : Type 0} (most : ℕ) (x xs : List A) → Some x ≡ one_to most xs → x ≡ xs
one_to_is most x xs e = sym (some_same xs x (came_from (nat_le 1 (length xs) && nat_le (length xs) most) (Some xs) x (sym e)).1)

module _ {A : Type 0} (cmp : A → A → Ordering) (ranked : IsRanked cmp) where
  -- a list rises just where its first is below its second, and the rest rises
  rises_by_step : (x y : A) (ys : List A) → is_rising cmp (x ∷ y ∷ ys) ≡ (is_lt (cmp x y) && is_rising cmp (y ∷ ys))
  rises_by_step x y ys =
      step _ _ _ (λ low rest. all_pass (λ z. is_lt (cmp x z)) ys (λ z i. ap is_lt (ranked.total.trans x y z (lt_less _ low) ((rises_by_test cmp (y ∷ ys) rest).0 z i))))
    where
      step : (a b c : Bool) → (a ≡ true → c ≡ true → b ≡ true) → ((a && b) && c) ≡ (a && c)
      step true true c h = refl
      step true false true h = h refl refl
      step true false false h = refl
      step false b c h = refl

  -- where the first of what is left is below the second, all rise just where the rest does
  pub rises_on : (left rest : List A) (x y : A) → left ≡ x ∷ rest → Some y ≡ slice_get rest 0 → is_lt (cmp x y) ≡ true → is_rising cmp left ≡ is_rising cmp rest
  rises_on left [] x y is second low = none_some y (sym second)
  rises_on left (z ∷ rest) x y is second low =
      ap (is_rising cmp) is
      ∙ rises_by_step x z rest
      ∙ ap (λ b. b && is_rising cmp (z ∷ rest)) (ap (λ w. is_lt (cmp x w)) (sym (some_same y z second)) ∙ low)

  -- what rises is its own set
  pub set_itself : (xs : List A) → is_rising cmp xs ≡ true → ascending cmp xs ≡ xs
  set_itself xs h = ascending-itself cmp ranked xs (rises_by_test cmp xs h)
