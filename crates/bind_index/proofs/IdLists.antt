-- A set of Session-Ids after one is added or taken out.
use Rattle.std.proofs.Common.{◌≡◌, true, false, not, List, [], ◌∷◌, ◌⊎◌, inl, inr, refl, sym, ap, ◌∙◌, subst, Ordering, Less, Equal, Greater}
use Rattle.std.specs.List.{list_any}
use Rattle.std.specs.Ordering.{is_eq}
use Rattle.std.specs.BTreeMap.{is_at}
use Rattle.std.specs.BTreeSet.{insert_key}
use Rattle.std.specs.FinMap.Entries.{by_order}
use Rattle.std.specs.Set.{remove_key}
use Rattle.pcrf_values.specs.Ascending.{place, ascending, Rises}
use Rattle.pcrf_values.specs.Sets.{In}
use Rattle.pcrf_values.proofs.OrderLaws.{IsRanked, eq_is}
use Rattle.pcrf_values.proofs.SetLaws.{any-In}
use Rattle.pcrf_values.proofs.AscendingLaws.{ascending-ascending, ascending-itself, ascending-Same, filter-ascending}
use Rattle.bind_index.specs.Lists.{without}

module _ {A : Type 0} (order : A → A → Ordering) (o : IsRanked order) where
  -- what the tree inserts is placed
  pub inserted_is_placed : (id : A) (ids : List A) → insert_key order ids id ≡ place order id ids
  inserted_is_placed id [] = refl
  inserted_is_placed id (x ∷ xs) = elim (order id x) as (λ r. order id x ≡ r → insert_key order (x ∷ xs) id ≡ place order id (x ∷ xs)) [
    | Less ↦ λ e. simp e refl
    | Equal ↦ λ e. simp e refl
    | Greater ↦ λ e. simp e (ap (λ ys. x ∷ ys) (inserted_is_placed id xs))
  ] refl

  -- placed it is the ascending list of all
  placed_is_ascending : (id : A) (ids : List A) → Rises order ids → place order id ids ≡ ascending order (id ∷ ids)
  placed_is_ascending id ids s = ap (place order id) (sym (ascending-itself order o ids s))

  -- which rises
  pub placed_rises : (id : A) (ids : List A) → Rises order ids → Rises order (place order id ids)
  placed_rises id ids s = subst (λ l. Rises order l) (sym (placed_is_ascending id ids s)) (ascending-ascending order o (id ∷ ids))

  -- what is there stays as it is
  pub placed_again : (id : A) (ids : List A) → Rises order ids → list_any (is_at (order id)) ids ≡ true → place order id ids ≡ ids
  placed_again id ids s h =
      let r = any-In (is_at (order id)) ids h in
      let here : In id ids = subst (λ (x : A). In x ids) (sym (eq_is o id r.0 r.2)) r.1 in
      placed_is_ascending id ids s
      ∙ ascending-Same order o (id ∷ ids) ids (λ x. (λ i. elim i [ inl e ↦ subst (λ (y : A). In y ids) (sym e) here | inr j ↦ j ], λ i. inr i))
      ∙ ascending-itself order o ids s

  -- where the id isn't among them, nothing is left out
  none_out : (id : A) (ids : List A) → ((x : A) → In x ids → is_eq (order id x) ≡ false) → ids ≡ without order id ids
  none_out id [] h = refl
  none_out id (x ∷ xs) h = simp (h x (inl refl)) (ap (λ ys. x ∷ ys) (none_out id xs (λ y i. h y (inr i))))

  -- what the tree takes out is left out
  pub removed_is_left_out : (id : A) (ids : List A) → Rises order ids → remove_key (is_at (order id)) ids ≡ without order id ids
  removed_is_left_out id [] s = refl
  removed_is_left_out id (x ∷ xs) s = elim (is_eq (order id x)) as (λ b. is_eq (order id x) ≡ b → remove_key (is_at (order id)) (x ∷ xs) ≡ without order id (x ∷ xs)) [
    | true ↦ λ e. simp e (none_out id xs (λ y i. apart y i e))
    | false ↦ λ e. simp e (ap (λ ys. x ∷ ys) (removed_is_left_out id xs s.1))
  ] refl
    where
      apart : (y : A) → In y xs → is_eq (order id x) ≡ true → is_eq (order id y) ≡ false
      apart y i e =
          let same : id ≡ x = eq_is o id x e in
          ap is_eq (ap (λ z. order z y) same ∙ s.0 y i)

  -- and what is left rises
  pub left_rises : (id : A) (ids : List A) → Rises order ids → Rises order (without order id ids)
  left_rises id ids s = filter-ascending order (λ x. not (is_eq (order id x))) ids s

  -- what is placed is there
  pub place_has : (id : A) (ids : List A) → In id (place order id ids)
  place_has id [] = inl refl
  place_has id (x ∷ xs) = elim (order id x) as (λ r. order id x ≡ r → In id (by_order r (id ∷ x ∷ xs) (x ∷ xs) (x ∷ place order id xs))) [
    | Less ↦ λ _. inl refl
    | Equal ↦ λ e. inl (o.same id x e)
    | Greater ↦ λ _. inr (place_has id xs)
  ] refl

  -- what is there is there behind one more
  further : (x y : A) (ys zs : List A) → (In x ys → In x zs) → (x ≡ y) ⊎ In x ys → In x (y ∷ zs)
  further x y ys zs h (inl e) = inl e
  further x y ys zs h (inr j) = inr (h j)

  -- and what was there stays
  pub place_keeps : (id x : A) (ids : List A) → In x ids → In x (place order id ids)
  place_keeps id x [] i = absurd i
  place_keeps id x (y ∷ ys) i = elim (order id y) as (λ r. In x (by_order r (id ∷ y ∷ ys) (y ∷ ys) (y ∷ place order id ys))) [
    | Less ↦ inr i
    | Equal ↦ i
    | Greater ↦ further x y ys (place order id ys) (place_keeps id x ys) i
  ]

  -- ---- a list whose first stands apart

  -- what is below the first goes in front
  pub placed_first : (id x : A) (xs : List A) → order id x ≡ Less → place order id (x ∷ xs) ≡ id ∷ x ∷ xs
  placed_first id x xs e = ap (λ r. by_order r (id ∷ x ∷ xs) (x ∷ xs) (x ∷ place order id xs)) e

  -- what is above it among the others
  pub placed_behind : (id x : A) (xs : List A) → order id x ≡ Greater → place order id (x ∷ xs) ≡ x ∷ place order id xs
  placed_behind id x xs e = ap (λ r. by_order r (id ∷ x ∷ xs) (x ∷ xs) (x ∷ place order id xs)) e

  -- a first that is inserted into the others is again the first
  pub first_inserted : (x : A) (xs : List A) → Rises order (x ∷ xs) → insert_key order xs x ≡ x ∷ xs
  first_inserted x xs s = inserted_is_placed x xs ∙ placed_is_ascending x xs s.1 ∙ ascending-itself order o (x ∷ xs) s

  -- without the first
  pub first_left_out : (id x : A) (xs : List A) → Rises order (x ∷ xs) → is_eq (order id x) ≡ true → without order id (x ∷ xs) ≡ xs
  first_left_out id x xs s e =
      let same : id ≡ x = eq_is o id x e in
      simp e (sym (none_out id xs (λ y i. ap is_eq (ap (λ z. order z y) same ∙ s.0 y i))))

  -- without one of the others
  pub other_left_out : (id x : A) (xs : List A) → Rises order (x ∷ xs) → is_eq (order id x) ≡ false
      → x ∷ remove_key (is_at (order id)) xs ≡ without order id (x ∷ xs)
  other_left_out id x xs s e = simp e (ap (λ ys. x ∷ ys) (removed_is_left_out id xs s.1))
