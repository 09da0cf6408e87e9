-- The greatest of a list, as it grows and as it is mapped.
use Rattle.std.proofs.Common.{◌≡◌, Bool, true, false, cond, List, [], ◌∷◌, ◌++◌, map, Some, refl, ap, ◌∙◌, subst, option_map, Ordering, if◌then◌else◌}
use Rattle.std.specs.Ordering.{is_lt}
use Rattle.pcrf_values.specs.Sets.{In, best, greatest}
use Rattle.pcrf_values.proofs.OrderLaws.{IsRanked}
use Rattle.pcrf_values.proofs.SetLaws.{best-in, best-top, less_irr, less_trans}

-- either way of choosing
pub chosen : {A : Type 0} (b : Bool) (x y : A) → Some (cond b y x) ≡ (if b then Some y else Some x)
chosen true x y = refl
chosen false x y = refl

module _ {A : Type 0} (below : A → A → Bool) where
  -- the best of one more
  pub best-push : (x : A) (xs : List A) (y : A) → best below x (xs ++ y ∷ []) ≡ cond (below (best below x xs) y) y (best below x xs)
  best-push x [] y = refl
  best-push x (z ∷ zs) y = best-push (cond (below x z) z x) zs y

module _ {A B : Type 0} (below : A → A → Bool) (under : B → B → Bool) (f : A → B) (keeps : (x y : A) → under (f x) (f y) ≡ below x y) where
  -- what is chosen, mapped
  chosen-map : (b : Bool) (x y : A) → cond b (f y) (f x) ≡ f (cond b y x)
  chosen-map true x y = refl
  chosen-map false x y = refl

  -- the best of what is mapped
  best-map : (x : A) (xs : List A) → best under (f x) (map f xs) ≡ f (best below x xs)
  best-map x [] = refl
  best-map x (y ∷ ys) =
      ap (λ (z : B). best under z (map f ys)) (ap (λ (b : Bool). cond b (f y) (f x)) (keeps x y) ∙ chosen-map (below x y) x y)
      ∙ best-map (cond (below x y) y x) ys

-- the greatest of what is mapped
pub greatest-map : {A B : Type 0} (R : A → A → Ordering) (S : B → B → Ordering) (f : A → B) → ((x y : A) → S (f x) (f y) ≡ R x y) → (xs : List A) → greatest S (map f xs) ≡ option_map f (greatest R xs)
greatest-map R S f keeps [] = refl
greatest-map R S f keeps (x ∷ xs) = ap Some (best-map (λ a b. is_lt (R a b)) (λ a b. is_lt (S a b)) f (λ a b. ap is_lt (keeps a b)) x xs)

module _ {A : Type 0} (cmp : A → A → Ordering) (o : IsRanked cmp) where
  -- the greatest is a member, and below none
  pub greatest_is : (xs : List A) (c : A) → greatest cmp xs ≡ Some c → In c xs × ((y : A) → In y xs → is_lt (cmp c y) ≡ false)
  greatest_is [] c e = absurd (cc)
  greatest_is (x ∷ xs) c e =
      let same : best (λ a b. is_lt (cmp a b)) x xs ≡ c = cc in (
        subst (λ (z : A). In z (x ∷ xs)) same (best-in (λ a b. is_lt (cmp a b)) (less_irr cmp o.total o.same) (less_trans cmp o.total o.same) x xs),
        λ y i. subst (λ (z : A). is_lt (cmp z y) ≡ false) same (best-top (λ a b. is_lt (cmp a b)) (less_irr cmp o.total o.same) (less_trans cmp o.total o.same) x xs y i),
      )

  -- a list with a member has a greatest
  pub greatest_some : (xs : List A) (x : A) → In x xs → (c : A) × (greatest cmp xs ≡ Some c)
  greatest_some [] x i = absurd i
  greatest_some (y ∷ ys) x i = (best (λ a b. is_lt (cmp a b)) y ys, refl)
