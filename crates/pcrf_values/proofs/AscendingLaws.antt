-- The ascending list of a set: two lists of one set give the same.
use Rattle.std.proofs.Common.{◌≡◌, ℕ, zero, suc, drop, Bool, true, false, cond, List, [], ◌∷◌, map, Option, Some, None, ◌⊎◌, ◌↔◌, inl, inr, refl, sym, ap, ◌∙◌, subst, Ordering, Less, Equal, Greater}
use Rattle.std.specs.Ordering.{ordering_reverse, is_lt}
use Rattle.std.specs.Cmp.{tied_itself}
use Rattle.std.specs.FinMap.Entries.{by_order}
use Rattle.pcrf_values.specs.Ascending.{place, ascending, IsBelowAll, Rises}
use Rattle.std.specs.List.{filter, filter_map, cons_option}
use Rattle.pcrf_values.proofs.Plain.{clash}
use Rattle.pcrf_values.specs.Sets.{In, Same, Distinct}
use Rattle.pcrf_values.proofs.SetLaws.{Same-back, Same-through, filter-In, map-In, filter_map-In}
use Rattle.pcrf_values.proofs.OrderLaws.{IsRanked}

module _ {A : Type 0} (cmp : A → A → Ordering) where
  -- a filter of a list in order is in order
  pub filter-ascending : (p : A → Bool) (xs : List A) → Rises cmp xs → Rises cmp (filter p xs)
  filter-ascending p [] s = tt
  filter-ascending p (x ∷ xs) s = elim (p x) as (λ b. Rises cmp (cond b (x ∷ filter p xs) (filter p xs))) [
    | true ↦ (λ y i. s.0 y (filter-In p y xs i).0, filter-ascending p xs s.1)
    | false ↦ filter-ascending p xs s.1
  ]

  -- and so is what is left past its first members
  pub drop-ascending : (n : ℕ) (xs : List A) → Rises cmp xs → Rises cmp (drop n xs)
  drop-ascending zero xs s = s
  drop-ascending (suc n) [] s = tt
  drop-ascending (suc n) (x ∷ xs) s = drop-ascending n xs s.1

module _ {A B : Type 0} (R : A → A → Ordering) (S : B → B → Ordering) where
  -- a map that keeps the order of members keeps lists in order
  pub map-ascending : (f : A → B) (xs : List A) → ((x y : A) → In x xs → In y xs → R x y ≡ Less → S (f x) (f y) ≡ Less) → Rises R xs → Rises S (map f xs)
  map-ascending f [] keeps s = tt
  map-ascending f (x ∷ xs) keeps s = (
    λ y i. let r = map-In f y xs i in subst (λ (z : B). S (f x) z ≡ Less) (sym r.2) (keeps x r.0 (inl refl) (inr r.1) (s.0 r.0 r.1)),
    map-ascending f xs (λ y z i j. keeps y z (inr i) (inr j)) s.1,
  )

  -- and so does one that leaves members out
  pub filter_map-ascending : (g : A → Option B) (xs : List A)
      → ((x y : A) (u w : B) → In x xs → In y xs → R x y ≡ Less → g x ≡ Some u → g y ≡ Some w → S u w ≡ Less)
      → Rises R xs → Rises S (filter_map g xs)
  filter_map-ascending g [] keeps s = tt
  filter_map-ascending g (x ∷ xs) keeps s = elim (g x) as (λ r. g x ≡ r → Rises S (cons_option r (filter_map g xs))) [
    | None ↦ λ _. filter_map-ascending g xs (λ y z u w i j. keeps y z u w (inr i) (inr j)) s.1
    | Some u ↦ λ e. (
      λ w i. let r = filter_map-In g w xs i in keeps x r.0 u w (inl refl) (inr r.1) (s.0 r.0 r.1) e r.2,
      filter_map-ascending g xs (λ y z u w i j. keeps y z u w (inr i) (inr j)) s.1,
    )
  ] refl

module _ {A : Type 0} (cmp : A → A → Ordering) (o : IsRanked cmp) where
  -- above is below the other way
  turned : (x y : A) → cmp x y ≡ Greater → cmp y x ≡ Less
  turned x y e = o.total.antisymm y x ∙ ap ordering_reverse e

  -- no two are below each other
  not_both : {P : Type 0} (x y : A) → cmp x y ≡ Less → cmp y x ≡ Less → P
  not_both x y h k = clash _ (ap is_lt (o.total.trans x y x h k)) (ap is_lt (tied_itself o.total x))

  -- placing adds just that member
  place-In : (x y : A) (ys : List A) → In y (place cmp x ys) ↔ (y ≡ x) ⊎ In y ys
  place-In x y [] = (λ h. h, λ h. h)
  place-In x y (z ∷ zs) =
      let ih = place-In x y zs in
      elim (cmp x z) as (λ r. cmp x z ≡ r → In y (by_order r (x ∷ z ∷ zs) (z ∷ zs) (z ∷ place cmp x zs)) ↔ (y ≡ x) ⊎ In y (z ∷ zs)) [
        | Less ↦ λ _. (λ h. h, λ h. h)
        | Equal ↦ λ e. (λ h. inr h, elim [ inl q ↦ inl (q ∙ o.same x z e) | inr h ↦ h ])
        | Greater ↦ λ _. (
          elim [ inl q ↦ inr (inl q) | inr h ↦ swap_in (ih.0 h) ],
          elim [ inl q ↦ inr (ih.1 (inl q)) | inr (inl q) ↦ inl q | inr (inr h) ↦ inr (ih.1 (inr h)) ],
        )
      ] refl
    where
      swap_in : (y ≡ x) ⊎ In y zs → (y ≡ x) ⊎ In y (z ∷ zs)
      swap_in (inl q) = inl q
      swap_in (inr h) = inr (inr h)

  -- what is below all stays so when one above it is placed
  below_place : (x z : A) (zs : List A) → cmp x z ≡ Less → IsBelowAll cmp x zs → IsBelowAll cmp x (place cmp z zs)
  below_place x z zs l b y i = elim ((place-In z y zs).0 i) [ inl q ↦ ap (cmp x) q ∙ l | inr h ↦ b y h ]

  -- what is below the least is below all
  below_more : (x z : A) (zs : List A) → cmp x z ≡ Less → IsBelowAll cmp z zs → IsBelowAll cmp x (z ∷ zs)
  below_more x z zs l b y (inl q) = ap (cmp x) q ∙ l
  below_more x z zs l b y (inr h) = o.total.trans x z y l (b y h)

  -- placing keeps the order
  place-ascending : (x : A) (ys : List A) → Rises cmp ys → Rises cmp (place cmp x ys)
  place-ascending x [] s = (λ y i. absurd i, tt)
  place-ascending x (z ∷ zs) s = elim (cmp x z) as (λ r. cmp x z ≡ r → Rises cmp (by_order r (x ∷ z ∷ zs) (z ∷ zs) (z ∷ place cmp x zs))) [
    | Less ↦ λ e. (below_more x z zs e s.0, s)
    | Equal ↦ λ e. s
    | Greater ↦ λ e. (below_place z x zs (turned x z e) s.0, place-ascending x zs s.1)
  ] refl

  -- the ascending list has the same members
  pub ascending-In : (xs : List A) → Same (ascending cmp xs) xs
  ascending-In [] y = (λ h. h, λ h. h)
  ascending-In (x ∷ xs) y =
      let p = place-In x y (ascending cmp xs) in
      let ih = ascending-In xs y in
      (λ h. elim (p.0 h) [ inl q ↦ inl q | inr i ↦ inr (ih.0 i) ], elim [ inl q ↦ p.1 (inl q) | inr i ↦ p.1 (inr (ih.1 i)) ])

  -- the ascending list is in order
  pub ascending-ascending : (xs : List A) → Rises cmp (ascending cmp xs)
  ascending-ascending [] = tt
  ascending-ascending (x ∷ xs) = place-ascending x (ascending cmp xs) (ascending-ascending xs)

  -- lists in order with the same members begin alike
  heads : (x y : A) (xs ys : List A) → IsBelowAll cmp x xs → IsBelowAll cmp y ys → In x (y ∷ ys) → In y (x ∷ xs) → x ≡ y
  heads x y xs ys b c (inl q) j = q
  heads x y xs ys b c (inr i) (inl q) = sym q
  heads x y xs ys b c (inr i) (inr j) = not_both x y (b y j) (c x i)

  -- and go on with the same members
  tail : (x y : A) (xs ys : List A) → IsBelowAll cmp x xs → x ≡ y → (z : A) → In z xs → In z (y ∷ ys) → In z ys
  tail x y xs ys b e z i (inl q) = clash _ (ap is_lt (b z i)) (ap is_lt (ap (cmp x) (q ∙ sym e) ∙ tied_itself o.total x))
  tail x y xs ys b e z i (inr j) = j

  -- lists in order with the same members are the same
  pub same_ascending : (xs ys : List A) → Rises cmp xs → Rises cmp ys → Same xs ys → xs ≡ ys
  same_ascending [] [] s t e = refl
  same_ascending [] (y ∷ ys) s t e = absurd ((e y).1 (inl refl))
  same_ascending (x ∷ xs) [] s t e = absurd ((e x).0 (inl refl))
  same_ascending (x ∷ xs) (y ∷ ys) s t e =
      let q = heads x y xs ys s.0 t.0 ((e x).0 (inl refl)) ((e y).1 (inl refl)) in
      let r = same_ascending xs ys s.1 t.1 (λ z. (λ i. tail x y xs ys s.0 q z i ((e z).0 (inr i)), λ i. tail y x ys xs t.0 (sym q) z i ((e z).1 (inr i)))) in
      λ i. q i ∷ r i

  -- so lists with the same members have the same ascending list
  pub ascending-Same : (xs ys : List A) → Same xs ys → ascending cmp xs ≡ ascending cmp ys
  ascending-Same xs ys e =
      same_ascending _ _ (ascending-ascending xs) (ascending-ascending ys)
      (Same-through _ xs _ (ascending-In xs) (Same-through xs ys _ e (Same-back _ _ (ascending-In ys))))

  -- in a list in order no member comes twice
  pub Distinct-ascending : (xs : List A) → Rises cmp xs → Distinct xs
  Distinct-ascending [] s = tt
  Distinct-ascending (x ∷ xs) s = (λ i. clash _ (ap is_lt (s.0 x i)) (ap is_lt (tied_itself o.total x)), Distinct-ascending xs s.1)

  -- a list in order is its own ascending list
  pub ascending-itself : (xs : List A) → Rises cmp xs → ascending cmp xs ≡ xs
  ascending-itself xs s = same_ascending _ _ (ascending-ascending xs) s (ascending-In xs)

  -- so an ascending list is its own ascending list
  pub ascending_twice : (xs : List A) → ascending cmp (ascending cmp xs) ≡ ascending cmp xs
  ascending_twice xs = ascending-itself (ascending cmp xs) (ascending-ascending xs)
