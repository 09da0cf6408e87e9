-- Lists that rise, told step by step.
use Rattle.std.proofs.Common.{◌≡◌, Bool, true, false, ◌&&◌, List, [], ◌∷◌, map, Some, refl, sym, ap, ◌∙◌, Ordering, Less}
use Rattle.std.specs.Ordering.{is_lt}
use Rattle.std.specs.List.{slice_get}
use Rattle.std.specs.Cmp.{IsTotalOrder}
use Rattle.pcrf_values.specs.Ascending.{Rises}
use Rattle.pcrf_values.proofs.Plain.{lt_less, none_some, some_same}
use Rattle.pcrf_model.specs.Forms.{is_rising}
use Rattle.pcrf_model.proofs.FormLaws.{all_pass, rises_by_test}

module _ {A : Type 0} (cmp : A → A → Ordering) (o : IsTotalOrder cmp) where
  -- a list rises just where its first is below its second, and the rest rises
  pub rises_by_step : (x y : A) (ys : List A) → is_rising cmp (x ∷ y ∷ ys) ≡ (is_lt (cmp x y) && is_rising cmp (y ∷ ys))
  rises_by_step x y ys =
      step _ _ _ (λ low rest. all_pass (λ z. is_lt (cmp x z)) ys (λ z i. ap is_lt (o.trans x y z (lt_less _ low) ((rises_by_test cmp (y ∷ ys) rest).0 z i))))
    where
      step : (a b c : Bool) → (a ≡ true → c ≡ true → b ≡ true) → ((a && b) && c) ≡ (a && c)
      step true true c h = refl
      step true false true h = h refl refl
      step true false false h = refl
      step false b c h = refl

module _ {A B K : Type 0} (cmp : K → K → Ordering) (o : IsTotalOrder cmp) (of : A → B) (key : B → K) where
  -- where the first of what is left is below the second, all rise just where the rest does
  pub rises_on : (left rest : List A) (x y : A) → left ≡ x ∷ rest → Some y ≡ slice_get rest 0 → cmp (key (of x)) (key (of y)) ≡ Less → is_rising cmp (map key (map of left)) ≡ is_rising cmp (map key (map of rest))
  rises_on left [] x y is second low = none_some y (sym second)
  rises_on left (z ∷ rest) x y is second low =
      let below : cmp (key (of x)) (key (of z)) ≡ Less = ap (λ w. cmp (key (of x)) (key (of w))) (sym (some_same y z second)) ∙ low in
      ap (λ l. is_rising cmp (map key (map of l))) is
      ∙ rises_by_step cmp o (key (of x)) (key (of z)) (map key (map of rest))
      ∙ ap (λ r. is_lt r && is_rising cmp (map key (map of (z ∷ rest)))) below
