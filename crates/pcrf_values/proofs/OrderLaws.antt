-- The orders are total, and their equals are the same value.
use Rattle.std.proofs.Common.{◌≡◌, true, Option, ◌⊎◌, inl, inr, refl, sym, ap, ◌∙◌, Ordering, Less, Equal}
use Rattle.std.specs.Ordering.{is_eq, ordering_reverse, nat_cmp, on}
use Rattle.std.specs.Cmp.{IsTotalOrder, Equal-is, tied_itself}
use Rattle.std.specs.Option.{option_cmp}
use Rattle.std.proofs.lemmas.Cmp.{on_total, then_total, nat_cmp_total, lists_total}
use Rattle.std.specs.Cmp.Lexicographic.{slice_cmp, options_total}
use Rattle.pcrf_values.specs.Exact.{IsExact}
use Rattle.pcrf_values.specs.laws.Exact.{nat_same, list_same, pair_same, option_same}
use Rattle.pcrf_values.specs.Orders.{pair_cmp, either_cmp, text_cmp}

-- a total order that calls only the same value equal
pub record IsRanked {A : Type 0} (R : A → A → Ordering) : Type 0 where
  pub total : IsTotalOrder R
  pub same : IsExact R

-- numbers are ranked
pub nat_ranked : IsRanked nat_cmp
nat_ranked = record { total = nat_cmp_total; same = nat_same }

-- so are lists
pub list_ranked : {A : Type 0} {R : A → A → Ordering} → IsRanked R → IsRanked (slice_cmp R)
list_ranked o = record { total = lists_total o.total; same = list_same o.same }

-- so are texts
pub text_ranked : IsRanked text_cmp
text_ranked = list_ranked nat_ranked

-- so are pairs
pub pair_ranked : {A B : Type 0} {R : A → A → Ordering} {S : B → B → Ordering} → IsRanked R → IsRanked S → IsRanked (pair_cmp R S)
pair_ranked {A = A} {B = B} o p = record {
  total = then_total (on_total (λ (x : A × B). x.0) o.total) (on_total (λ (x : A × B). x.1) p.total);
  same = pair_same o.same p.same;
}

-- so is what a ranked key tells
pub on_ranked : {A B : Type 0} (key : A → B) (back : B → A) → ((x : A) → back (key x) ≡ x) → {R : B → B → Ordering} → IsRanked R → IsRanked (on key R)
on_ranked key back undo o = record {
  total = on_total key o.total;
  same = λ x y e. sym (undo x) ∙ ap back (o.same _ _ e) ∙ undo y;
}

module _ {A B : Type 0} {R : A → A → Ordering} {S : B → B → Ordering} (o : IsRanked R) (p : IsRanked S) where
  -- alternatives turned round
  antisymm : (x y : A ⊎ B) → either_cmp R S x y ≡ ordering_reverse (either_cmp R S y x)
  antisymm (inl x) (inl y) = o.total.antisymm x y
  antisymm (inl x) (inr y) = refl
  antisymm (inr x) (inl y) = refl
  antisymm (inr x) (inr y) = p.total.antisymm x y

  -- alternatives in a row
  trans : (x y z : A ⊎ B) → either_cmp R S x y ≡ Less → either_cmp R S y z ≡ Less → either_cmp R S x z ≡ Less
  trans (inl x) (inl y) (inl z) h k = o.total.trans x y z h k
  trans (inl x) (inl y) (inr z) h k = refl
  trans (inl x) (inr y) (inl z) h k = cc
  trans (inl x) (inr y) (inr z) h k = refl
  trans (inr x) (inl y) z h k = cc
  trans (inr x) (inr y) (inl z) h k = cc
  trans (inr x) (inr y) (inr z) h k = p.total.trans x y z h k

  -- equal alternatives compare alike
  congr : (x y z : A ⊎ B) → either_cmp R S x y ≡ Equal → either_cmp R S x z ≡ either_cmp R S y z
  congr (inl x) (inl y) (inl z) h = o.total.congr x y z h
  congr (inl x) (inl y) (inr z) h = refl
  congr (inl x) (inr y) z h = cc
  congr (inr x) (inl y) z h = cc
  congr (inr x) (inr y) (inl z) h = refl
  congr (inr x) (inr y) (inr z) h = p.total.congr x y z h

  -- equal alternatives are the same
  same : (x y : A ⊎ B) → either_cmp R S x y ≡ Equal → x ≡ y
  same (inl x) (inl y) h = ap inl (o.same x y h)
  same (inl x) (inr y) h = cc
  same (inr x) (inl y) h = cc
  same (inr x) (inr y) h = ap inr (p.same x y h)

  -- so are alternatives
  pub either_ranked : IsRanked (either_cmp R S)
  either_ranked = record { total = record { antisymm = antisymm; trans = trans; congr = congr }; same = same }

-- options of ranked values are ranked
pub option_ranked : {A : Type 0} {R : A → A → Ordering} → IsRanked R → IsRanked (option_cmp R)
option_ranked o = record { total = options_total o.total; same = option_same o.same }

-- what passes the test of a ranked order is the same
pub eq_is : {A : Type 0} {R : A → A → Ordering} → IsRanked R → (x y : A) → is_eq (R x y) ≡ true → x ≡ y
eq_is {R = R} o x y e = o.same x y ((Equal-is (R x y)).0 e)

-- and what is the same passes
pub eq_itself : {A : Type 0} {R : A → A → Ordering} → IsRanked R → (x : A) → is_eq (R x x) ≡ true
eq_itself o x = ap is_eq (tied_itself o.total x)
