-- Records as lists: what is in them, and what a sort makes of facts.
use Rattle.std.proofs.Common.{◌≡◌, ℕ, zero, suc, ◌+◌, ◌<◌, ◌≤◌, false, List, [], ◌∷◌, ◌++◌, length, get_or, map, ◌⊎◌, inl, inr, refl, sym, ap, ◌∙◌, subst, arith, Result, Ok, Err, Ordering, Less, Equal, Greater}
use Rattle.std.proofs.lemmas.List.Sorted.{IsPermutation-map, IsPermutation-sym, Contains-permutation}
use Rattle.std.specs.Ordering.{is_lt, is_eq, ordering_reverse}
use Rattle.std.specs.List.{list_any, Contains}
use Rattle.std.specs.List.Sorted.{IsSortedBy, IsPermutation, IsSearchInRange, IsBinarySearchResult}
use Rattle.std.specs.Result.{is_ok}
use Rattle.pcrf_values.specs.Ascending.{Rises}
use Rattle.pcrf_values.specs.Sets.{In, Same}
use Rattle.pcrf_values.proofs.SetLaws.{In-left, In-cases}
use Rattle.pcrf_values.specs.Facts.{Fact, fact_cmp}
use Rattle.pcrf_values.specs.Held.{kept_list, join_of}
use Rattle.pcrf_values.proofs.FactLaws.{fact_ranked}
use Rattle.pcrf_values.proofs.JoinedLaws.{held-Same}
use Rattle.lattice_core.specs.Orders.{NoneBelow, Climbs}
use Rattle.lattice_core.proofs.BeneathLaws.{any_agrees}
use Rattle.lattice_core.proofs.KeepLaws.{kept_rises}
use Rattle.lattice_core.proofs.MergeLaws.{not_below_through}
use Rattle.lattice_core.proofs.SearchLaws.{found_by_search}

-- ---- a fact found

-- a list as it is
map_itself : (xs : List Fact) → map (λ x. x) xs ≡ xs
map_itself [] = refl
map_itself (x ∷ xs) = ap (λ (l : List Fact). x ∷ l) (map_itself xs)

-- equal either way
eq_turned : (x y : Fact) → is_eq (fact_cmp x y) ≡ is_eq (fact_cmp y x)
eq_turned x y = ap is_eq (fact_ranked.total.antisymm x y) ∙ turned (fact_cmp y x)
  where
    turned : (o : Ordering) → is_eq (ordering_reverse o) ≡ is_eq o
    turned Less = refl
    turned Equal = refl
    turned Greater = refl

-- a search by halves finds a fact just where it is
pub found_fact : {A : Type 0} (fact : A → Fact) (xs : List A) (k : Fact) → kept_list (map fact xs) ≡ map fact xs → (r : Result ℕ ℕ) → IsSearchInRange r (length xs) → IsBinarySearchResult (λ x. fact_cmp (fact x) k) xs r
    → is_ok r ≡ list_any (λ y. is_eq (fact_cmp k y)) (map fact xs)
found_fact fact xs k kept r bound found =
    found_by_search fact_cmp fact_ranked.total fact (λ f. f) xs k (subst (λ (l : List Fact). Rises fact_cmp l) (sym (map_itself (map fact xs))) (kept_rises (map fact xs) kept)) r bound found
    ∙ any_agrees (λ y. is_eq (fact_cmp y k)) (λ y. is_eq (fact_cmp k y)) (map fact xs) (λ y i. eq_turned y k)

-- ---- a sort

module _ {A : Type 0} (fact : A → Fact) where
  -- what no one is below the one before it climbs
  pub sorted_climbs : (xs : List A) → IsSortedBy (λ x y. is_lt (fact_cmp (fact x) (fact y))) xs → Climbs (map fact xs)
  sorted_climbs [] s = tt
  sorted_climbs (x ∷ []) s = (λ y i. absurd i, tt)
  sorted_climbs (x ∷ y ∷ ys) s =
      let rest = sorted_climbs (y ∷ ys) (λ k d le lt. let e : suc k + 1 ≡ suc (k + 1) = omega arith in subst (λ n. is_lt (fact_cmp (fact (get_or (x ∷ y ∷ ys) n d)) (fact (get_or (y ∷ ys) k d))) ≡ false) e (s (suc k) d (omega arith) (omega arith))) in
      (low (s 0 x (omega arith) (omega arith)) rest, rest)
    where
      low : is_lt (fact_cmp (fact y) (fact x)) ≡ false → Climbs (map fact (y ∷ ys)) → NoneBelow (fact x) (map fact (y ∷ ys))
      low first rest z (inl e) = ap (λ (w : Fact). is_lt (fact_cmp w (fact x))) e ∙ first
      low first rest z (inr i) = not_below_through (fact x) (fact y) z first (rest.0 z i)

-- a member stands at some place
In-Contains : (x : Fact) (xs : List Fact) → In x xs → Contains xs x
In-Contains x [] i = absurd i
In-Contains x (y ∷ ys) (inl e) = (zero, omega arith, sym e)
In-Contains x (y ∷ ys) (inr i) = let r = In-Contains x ys i in (suc r.0, omega arith, r.2)

-- and what stands at some place is a member
Contains-In : (x : Fact) (xs : List Fact) (k : ℕ) → k < length xs → get_or xs k x ≡ x → In x xs
Contains-In x [] k lt e = absurd (omega arith)
Contains-In x (y ∷ ys) zero lt e = inl (sym e)
Contains-In x (y ∷ ys) (suc k) lt e = inr (Contains-In x ys k (omega arith) e)

-- a list in another order has the same members
pub permuted : {A : Type 0} (fact : A → Fact) (xs ys : List A) → IsPermutation xs ys → Same (map fact ys) (map fact xs)
permuted fact xs ys p x = (go (map fact ys) (map fact xs) (IsPermutation-sym (map fact xs) (map fact ys) moved), go (map fact xs) (map fact ys) moved)
  where
    moved : IsPermutation (map fact xs) (map fact ys)
    moved = IsPermutation-map fact xs ys p

    go : (us vs : List Fact) → IsPermutation us vs → In x us → In x vs
    go us vs q i = let r = Contains-permutation us vs x q (In-Contains x us i) in Contains-In x vs r.0 r.1 r.2

-- what is kept of facts that were sorted
pub sorted_kept : {A : Type 0} (fact : A → Fact) (xs ys none : List A) → IsPermutation xs ys → none ≡ [] → join_of (map fact ys) (map fact none) ≡ kept_list (map fact xs)
sorted_kept fact xs ys none p e =
    ap (λ l. join_of (map fact ys) (map fact l)) e
    ∙ held-Same (map fact ys ++ []) (map fact ys) (λ x. (λ i. left x (In-cases x (map fact ys) [] i), In-left x (map fact ys) []))
    ∙ held-Same (map fact ys) (map fact xs) (permuted fact xs ys p)
  where
    left : (x : Fact) → In x (map fact ys) ⊎ In x [] → In x (map fact ys)
    left x (inl i) = i
    left x (inr i) = absurd i
