-- Rules in the order of what stands in front of them are the rules in order.
use Rattle.std.proofs.Common.{◌≡◌, ℕ, List, [], ◌∷◌, map, refl, ap, ◌∙◌, Ordering, Less, Equal, Greater}
use Rattle.std.specs.FinMap.Entries.{by_order}
use Rattle.pcrf_values.specs.Ascending.{place, ascending}
use Rattle.pcrf_values.specs.Sets.{Same}
use Rattle.pcrf_values.proofs.AscendingLaws.{ascending-Same}
use Rattle.pcrf_values.proofs.OrderLaws.{IsRanked, nat_ranked, pair_ranked}
use Rattle.pcrf_values.specs.RuleValues.{RuleValue}
use Rattle.pcrf_values.proofs.FactLaws.{rule_ranked}
use Rattle.pcrf_model.specs.Rules.{listed_cmp}
use Rattle.pcc_rules.specs.Listing.{keyed, unkeyed, keyed_cmp}

module _ {A B : Type 0} (R : A → A → Ordering) (S : B → B → Ordering) (f : A → B) (keeps : (x y : A) → S (f x) (f y) ≡ R x y) where
  -- what is placed, mapped
  place-map : (x : A) (ys : List A) → place S (f x) (map f ys) ≡ map f (place R x ys)
  place-map x [] = refl
  place-map x (y ∷ ys) =
      ap (λ (r : Ordering). by_order r (f x ∷ f y ∷ map f ys) (f y ∷ map f ys) (f y ∷ place S (f x) (map f ys))) (keeps x y)
      ∙ by_cases (R x y) (place-map x ys)
    where
      by_cases : (r : Ordering) → place S (f x) (map f ys) ≡ map f (place R x ys)
          → by_order r (f x ∷ f y ∷ map f ys) (f y ∷ map f ys) (f y ∷ place S (f x) (map f ys)) ≡ map f (by_order r (x ∷ y ∷ ys) (y ∷ ys) (y ∷ place R x ys))
      by_cases Less h = refl
      by_cases Equal h = refl
      by_cases Greater h = ap (λ (zs : List B). f y ∷ zs) h

  -- a set that is mapped keeps its order
  ascending-map : (xs : List A) → ascending S (map f xs) ≡ map f (ascending R xs)
  ascending-map [] = refl
  ascending-map (x ∷ xs) = ap (place S (f x)) (ascending-map xs) ∙ place-map x (ascending R xs)

-- the rules behind what stands in front
unkeyed_keyed : (xs : List RuleValue) → map unkeyed (map keyed xs) ≡ xs
unkeyed_keyed [] = refl
unkeyed_keyed (x ∷ xs) = ap (λ (ys : List RuleValue). x ∷ ys) (unkeyed_keyed xs)

-- with it they are ranked
keyed_ranked : IsRanked keyed_cmp
keyed_ranked = pair_ranked nat_ranked rule_ranked

-- so these are the rules in order
pub listed_is : (found : List (ℕ × RuleValue)) (xs : List RuleValue) → Same found (map keyed xs) → map unkeyed (ascending keyed_cmp found) ≡ ascending listed_cmp xs
listed_is found xs s =
    ap (map unkeyed) (ascending-Same keyed_cmp keyed_ranked found (map keyed xs) s ∙ ascending-map listed_cmp keyed_cmp keyed (λ x y. refl) xs)
    ∙ unkeyed_keyed (ascending listed_cmp xs)
