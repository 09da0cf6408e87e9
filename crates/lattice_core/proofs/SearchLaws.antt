-- Lists that rise, searched.
use Rattle.std.proofs.Common.{◌≡◌, ℕ, zero, suc, ◌<◌, ◌≤◌, Bool, true, false, ◌&&◌, ◌||◌, List, [], ◌∷◌, length, get_or, map, inl, inr, Some, Result, Ok, Err, refl, sym, ap, ◌∙◌, Ordering, Less, Equal, Greater, arith}
use Rattle.std.specs.Ordering.{is_lt, is_eq, ordering_reverse, ordering_index}
use Rattle.std.specs.List.{list_any, slice_get}
use Rattle.std.specs.List.Sorted.{IsSearchInRange, IsBinarySearchResult, IsNonDecreasingBy}
use Rattle.std.specs.Result.{is_ok}
use Rattle.std.specs.Cmp.{IsTotalOrder}
use Rattle.std.proofs.lemmas.Bool.{cases_lt}
use Rattle.pcrf_values.specs.Ascending.{Rises}
use Rattle.pcrf_values.specs.Sets.{In}
use Rattle.pcrf_values.proofs.Plain.{lt_less, none_some, or_left, or_right, some_same}

module _ {A : Type 0} (cmp : A → A → Ordering) (o : IsTotalOrder cmp) where
  -- ranks rise with the members
  pub rank_by : (a b k : A) (p : Ordering) → cmp a k ≡ p → cmp a b ≡ Less → ordering_index p ≤ ordering_index (cmp b k)
  rank_by a b k Less e h = omega arith
  rank_by a b k Equal e h =
      let past : cmp b k ≡ Greater = o.antisymm b k ∙ ap ordering_reverse (sym (o.congr a k b e) ∙ h) in
      rw past (omega arith)
  rank_by a b k Greater e h =
      let past : cmp b k ≡ Greater = o.antisymm b k ∙ ap ordering_reverse (o.trans k a b (o.antisymm k a ∙ ap ordering_reverse e) h) in
      rw past (omega arith)

-- a test that no place passes
none_at : {A : Type 0} (p : A → Bool) (xs : List A) → ((i : ℕ) (d : A) → i < length xs → p (get_or xs i d) ≡ false) → list_any p xs ≡ false
none_at p [] h = refl
none_at p (x ∷ xs) h =
    let first = h zero x (omega arith) in
    let rest = none_at p xs (λ i d lt. h (suc i) d (omega arith)) in
    rw (first, rest) refl

-- a test that one place passes
some_at : {A : Type 0} (p : A → Bool) (xs : List A) (i : ℕ) → i < length xs → ((d : A) → p (get_or xs i d) ≡ true) → list_any p xs ≡ true
some_at p [] i lt h = absurd (omega arith)
some_at p (x ∷ xs) zero lt h = or_left (p x) (list_any p xs) (h x)
some_at p (x ∷ xs) (suc i) lt h = or_right (p x) (list_any p xs) (some_at p xs i (omega arith) h)

-- a test of what a list is made to
any_made : {A B : Type 0} (p : B → Bool) (of : A → B) (xs : List A) → list_any p (map of xs) ≡ list_any (λ x. p (of x)) xs
any_made p of [] = refl
any_made p of (x ∷ xs) = ap (λ b. p (of x) || b) (any_made p of xs)

module _ {A B K : Type 0} (cmp : K → K → Ordering) (o : IsTotalOrder cmp) (of : A → B) (key : B → K) where
  -- a key below all is below the one at a place
  pub below_at : (k : K) (xs : List A) (i : ℕ) (d : A) → i < length xs → ((l : K) → In l (map key (map of xs)) → cmp k l ≡ Less) → cmp k (key (of (get_or xs i d))) ≡ Less
  below_at k [] i d lt h = absurd (omega arith)
  below_at k (x ∷ xs) zero d lt h = h (key (of x)) (inl refl)
  below_at k (x ∷ xs) (suc i) d lt h = below_at k xs i d (omega arith) (λ l j. h l (inr j))

  -- what rises can be searched
  pub searchable : (xs : List A) (k : K) → Rises cmp (map key (map of xs)) → IsNonDecreasingBy (λ x. ordering_index (cmp (key (of x)) k)) xs
  searchable [] k r i j d le lt = absurd (omega arith)
  searchable (x ∷ xs) k r zero zero d le lt = omega arith
  searchable (x ∷ xs) k r zero (suc j) d le lt = rank_by cmp o (key (of x)) (key (of (get_or xs j d))) k (cmp (key (of x)) k) refl (below_at (key (of x)) xs j d (omega arith) r.0)
  searchable (x ∷ xs) k r (suc i) zero d le lt = absurd (omega arith)
  searchable (x ∷ xs) k r (suc i) (suc j) d le lt = searchable xs k r.1 i j d (omega arith) (omega arith)

  -- a binary search finds the key just where it stands
  pub found_by_search : (xs : List A) (k : K) → Rises cmp (map key (map of xs)) → (r : Result ℕ ℕ) → IsSearchInRange r (length xs) → IsBinarySearchResult (λ x. cmp (key (of x)) k) xs r → is_ok r ≡ list_any (λ y. is_eq (cmp (key y) k)) (map of xs)
  found_by_search xs k h (Ok at) bound there =
      sym (any_made (λ y. is_eq (cmp (key y) k)) of xs ∙ some_at (λ x. is_eq (cmp (key (of x)) k)) xs at bound (λ d. ap is_eq (there d)))
  found_by_search xs k h (Err at) bound parted =
      let sides = parted (searchable xs k h) in
      sym (any_made (λ y. is_eq (cmp (key y) k)) of xs ∙ none_at (λ x. is_eq (cmp (key (of x)) k)) xs (λ i d lt. elim (cases_lt i at) [
        | inl low ↦ ap is_eq (sides.0 i d (omega arith) low)
        | inr high ↦ ap is_eq (sides.1 i d high lt)
      ]))
