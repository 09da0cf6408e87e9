-- Laws of sets as lists.
use Rattle.std.proofs.Common.{◌≡◌, Bool, true, false, cond, not, List, [], ◌∷◌, ◌++◌, map, ◌⊎◌, Option, Some, None, inl, inr, refl, sym, ap, ◌∙◌, subst, true≢false, Ordering, Less, Equal, Greater}
use Rattle.std.specs.List.{list_any, filter, filter_map, cons_option}
use Rattle.std.specs.Ordering.{is_lt, ordering_reverse}
use Rattle.std.specs.Cmp.{both_ways, IsTotalOrder, tied_itself}
use Rattle.pcrf_values.specs.Exact.{IsExact}
use Rattle.pcrf_values.proofs.Plain.{clash, is_false, not_true, or_true, or_left, or_right, lt_less}
use Rattle.pcrf_values.specs.Sets.{In, Same, best, greatest, maximal}

module _ {A : Type 0} where
  -- a member of the first is in both
  pub In-left : (x : A) (xs ys : List A) → In x xs → In x (xs ++ ys)
  In-left x [] ys h = absurd h
  In-left x (y ∷ xs) ys (inl e) = inl e
  In-left x (y ∷ xs) ys (inr h) = inr (In-left x xs ys h)

  -- a member of the second is in both
  pub In-right : (x : A) (xs ys : List A) → In x ys → In x (xs ++ ys)
  In-right x [] ys h = h
  In-right x (y ∷ xs) ys h = inr (In-right x xs ys h)

  -- one place later
  later : (x y : A) (xs ys : List A) → In x xs ⊎ In x ys → In x (y ∷ xs) ⊎ In x ys
  later x y xs ys (inl h) = inl (inr h)
  later x y xs ys (inr h) = inr h

  -- a member of both is in one
  pub In-cases : (x : A) (xs ys : List A) → In x (xs ++ ys) → In x xs ⊎ In x ys
  In-cases x [] ys h = inr h
  In-cases x (y ∷ xs) ys (inl e) = inl (inl e)
  In-cases x (y ∷ xs) ys (inr h) = later x y xs ys (In-cases x xs ys h)

  module _ (p : A → Bool) where
    -- a member that passes is in the filter
    pub In-filter : (x : A) (xs : List A) → In x xs → p x ≡ true → In x (filter p xs)
    In-filter x [] h t = h
    In-filter x (y ∷ ys) (inl e) t = elim (p y) as (λ b. p y ≡ b → In x (cond b (y ∷ filter p ys) (filter p ys))) [
      | true ↦ λ _. inl e
      | false ↦ λ f. clash (p y) (ap p (sym e) ∙ t) f
    ] refl
    In-filter x (y ∷ ys) (inr h) t = elim (p y) as (λ b. In x (cond b (y ∷ filter p ys) (filter p ys))) [
      | true ↦ inr (In-filter x ys h t)
      | false ↦ In-filter x ys h t
    ]

    -- and one in the filter passes
    pub filter-In : (x : A) (xs : List A) → In x (filter p xs) → In x xs × (p x ≡ true)
    filter-In x [] = λ h. absurd h
    filter-In x (y ∷ ys) = elim (p y) as (λ b. p y ≡ b → In x (cond b (y ∷ filter p ys) (filter p ys)) → In x (y ∷ ys) × (p x ≡ true)) [
      | true ↦ λ t. elim [ inl e ↦ (inl e, ap p e ∙ t) | inr h ↦ let r = filter-In x ys h in (inr r.0, r.1) ]
      | false ↦ λ _ h. let r = filter-In x ys h in (inr r.0, r.1)
    ] refl

    -- a member that passes makes the test of some true
    pub In-any : (x : A) (xs : List A) → In x xs → p x ≡ true → list_any p xs ≡ true
    In-any x [] h t = absurd h
    In-any x (y ∷ ys) (inl e) t = or_left (p y) _ (ap p (sym e) ∙ t)
    In-any x (y ∷ ys) (inr h) t = or_right (p y) _ (In-any x ys h t)

    -- which some member then passes
    pub any-In : (xs : List A) → list_any p xs ≡ true → (x : A) × In x xs × (p x ≡ true)
    any-In [] h = clash false h refl
    any-In (y ∷ ys) h = elim (or_true (p y) (list_any p ys) h) [
      | inl t ↦ (y, inl refl, t)
      | inr t ↦ let r = any-In ys t in (r.0, inr r.1, r.2)
    ]

    -- the test of some depends on the members alone
    pub any-Same : (xs ys : List A) → Same xs ys → list_any p xs ≡ list_any p ys
    any-Same xs ys s = both_ways _ _
        (λ h. let r = any-In xs h in In-any r.0 ys ((s r.0).0 r.1) r.2)
        (λ h. let r = any-In ys h in In-any r.0 xs ((s r.0).1 r.1) r.2)

    -- where it is false none passes
    pub none-any : (xs : List A) → list_any p xs ≡ false → (x : A) → In x xs → p x ≡ false
    none-any xs f x h = is_false (p x) (λ t. clash _ (In-any x xs h t) f)

    -- and where none passes it is false
    pub any-none : (xs : List A) → ((x : A) → In x xs → p x ≡ false) → list_any p xs ≡ false
    any-none xs f = is_false _ (λ t. let r = any-In xs t in clash (p r.0) r.2 (f r.0 r.1))

  -- a list has its own members
  pub Same-itself : (xs : List A) → Same xs xs
  Same-itself xs x = (λ h. h, λ h. h)

  -- the other way
  pub Same-back : (xs ys : List A) → Same xs ys → Same ys xs
  Same-back xs ys s x = ((s x).1, (s x).0)

  -- through a third
  pub Same-through : (xs ys zs : List A) → Same xs ys → Same ys zs → Same xs zs
  Same-through xs ys zs s t x = (λ h. (t x).0 ((s x).0 h), λ h. (s x).1 ((t x).1 h))

  -- members go over part by part
  into : (xs ys us vs : List A) → ((x : A) → In x xs → In x us) → ((x : A) → In x ys → In x vs) → (x : A) → In x (xs ++ ys) → In x (us ++ vs)
  into xs ys us vs f g x h = elim (In-cases x xs ys h) [ inl a ↦ In-left x us vs (f x a) | inr a ↦ In-right x us vs (g x a) ]

  -- two lists part by part
  pub Same-append : (xs ys us vs : List A) → Same xs us → Same ys vs → Same (xs ++ ys) (us ++ vs)
  Same-append xs ys us vs s t x = (into xs ys us vs (λ y. (s y).0) (λ y. (t y).0) x, into us vs xs ys (λ y. (s y).1) (λ y. (t y).1) x)

  -- members in the other order
  turn : (xs ys : List A) (x : A) → In x (xs ++ ys) → In x (ys ++ xs)
  turn xs ys x h = elim (In-cases x xs ys h) [ inl a ↦ In-right x ys xs a | inr a ↦ In-left x ys xs a ]

  -- in the other order
  pub Same-turn : (xs ys : List A) → Same (xs ++ ys) (ys ++ xs)
  Same-turn xs ys x = (turn xs ys x, turn ys xs x)

  -- a list twice
  pub Same-twice : (xs : List A) → Same (xs ++ xs) xs
  Same-twice xs x = (λ h. elim (In-cases x xs xs h) [ inl a ↦ a | inr a ↦ a ], In-left x xs xs)

  -- ---- what a strict order has on top
  module _ (below : A → A → Bool) (irr : (x : A) → below x x ≡ false) (trans : (x y z : A) → below x y ≡ true → below y z ≡ true → below x z ≡ true) where
    -- it is m, or below it
    abbrev pub AtOrBelow : A → A → Type 0
    AtOrBelow x m = (x ≡ m) ⊎ (below x m ≡ true)

    -- up from below
    up_from : (x y m : A) → below x y ≡ true → AtOrBelow y m → below x m ≡ true
    up_from x y m e (inl q) = subst (λ (z : A). below x z ≡ true) q e
    up_from x y m e (inr q) = trans x y m e q

    -- not down again
    not_down : (x y m : A) → below x y ≡ true → AtOrBelow y m → below m x ≡ false
    not_down x y m e h = is_false (below m x) (λ t. clash (below x x) (trans x m x (up_from x y m e h) t) (irr x))

    -- not past what is above
    not_past : (x m z : A) → AtOrBelow x m → below x z ≡ false → below m z ≡ false
    not_past x m z (inl q) f = ap (λ y. below y z) (sym q) ∙ f
    not_past x m z (inr q) f = is_false (below m z) (λ t. clash (below x z) (trans x m z q t) f)

    -- the best is at the first or above
    pub best-above : (x : A) (xs : List A) → AtOrBelow x (best below x xs)
    best-above x [] = inl refl
    best-above x (y ∷ ys) = elim (below x y) as (λ b. below x y ≡ b → AtOrBelow x (best below (cond b y x) ys)) [
      | true ↦ λ e. inr (up_from x y _ e (best-above y ys))
      | false ↦ λ e. best-above x ys
    ] refl

    -- the best is a member
    pub best-in : (x : A) (xs : List A) → In (best below x xs) (x ∷ xs)
    best-in x [] = inl refl
    best-in x (y ∷ ys) = elim (below x y) as (λ b. In (best below (cond b y x) ys) (x ∷ y ∷ ys)) [
      | true ↦ inr (best-in y ys)
      | false ↦ skip (best-in x ys)
    ]
      where
        skip : In (best below x ys) (x ∷ ys) → In (best below x ys) (x ∷ y ∷ ys)
        skip (inl e) = inl e
        skip (inr h) = inr (inr h)

    -- no member is above the best
    pub best-top : (x : A) (xs : List A) (y : A) → In y (x ∷ xs) → below (best below x xs) y ≡ false
    best-top x [] y (inl e) = ap (below x) e ∙ irr x
    best-top x [] y (inr h) = absurd h
    best-top x (z ∷ zs) y h = elim (below x z) as (λ b. below x z ≡ b → below (best below (cond b z x) zs) y ≡ false) [
      | true ↦ λ e. rise (λ w i. best-top z zs w i) e h
      | false ↦ λ f. stay (λ w i. best-top x zs w i) f h
    ] refl
      where
        rise : ((w : A) → In w (z ∷ zs) → below (best below z zs) w ≡ false) → below x z ≡ true → In y (x ∷ z ∷ zs) → below (best below z zs) y ≡ false
        rise ih e (inl q) = ap (below (best below z zs)) q ∙ not_down x z _ e (best-above z zs)
        rise ih e (inr q) = ih y q

        stay : ((w : A) → In w (x ∷ zs) → below (best below x zs) w ≡ false) → below x z ≡ false → In y (x ∷ z ∷ zs) → below (best below x zs) y ≡ false
        stay ih f (inl q) = ih y (inl q)
        stay ih f (inr (inl q)) = ap (below (best below x zs)) q ∙ not_past x _ z (best-above x zs) f
        stay ih f (inr (inr q)) = ih y (inr q)

    -- what is on top is a member that none is above
    pub maximal-In : (x : A) (xs : List A) → In x (maximal below xs) → In x xs × ((y : A) → In y xs → below x y ≡ false)
    maximal-In x xs h = let r = filter-In (λ y. not (list_any (below y) xs)) x xs h in (r.0, none-any (below x) xs (not_true _ r.1))

    -- and such a member is on top
    pub In-maximal : (x : A) (xs : List A) → In x xs → ((y : A) → In y xs → below x y ≡ false) → In x (maximal below xs)
    In-maximal x xs h f = In-filter (λ y. not (list_any (below y) xs)) x xs h (ap not (any-none (below x) xs f))

    -- each member has one on top that is at it or above
    pub top_of : (x : A) (xs : List A) → In x xs → (m : A) × In m (maximal below xs) × AtOrBelow x m
    top_of x xs h = (best below x xs, In-maximal _ xs (there (best-in x xs)) (λ y i. best-top x xs y (inr i)), best-above x xs)
      where
        there : In (best below x xs) (x ∷ xs) → In (best below x xs) xs
        there (inl e) = subst (λ (z : A). In z xs) (sym e) h
        there (inr i) = i

    -- a test that passes on upwards sees no difference
    pub any-maximal : (p : A → Bool) → ((x y : A) → p x ≡ true → below x y ≡ true → p y ≡ true) → (xs : List A) → list_any p (maximal below xs) ≡ list_any p xs
    any-maximal p up xs = both_ways _ _
        (λ h. let r = any-In p (maximal below xs) h in In-any p r.0 xs (maximal-In r.0 xs r.1).0 r.2)
        (λ h. let r = any-In p xs h in let m = top_of r.0 xs r.1 in In-any p m.0 _ m.1 (passes r.0 m.0 r.2 m.2))
      where
        passes : (x m : A) → p x ≡ true → AtOrBelow x m → p m ≡ true
        passes x m t (inl q) = ap p (sym q) ∙ t
        passes x m t (inr q) = up x m t q

    -- what is on top depends on the members alone
    pub maximal-Same : (xs ys : List A) → Same xs ys → Same (maximal below xs) (maximal below ys)
    maximal-Same xs ys s x = (half xs ys s x, half ys xs (Same-back xs ys s) x)
      where
        half : (xs ys : List A) → Same xs ys → (x : A) → In x (maximal below xs) → In x (maximal below ys)
        half xs ys s x h = let r = maximal-In x xs h in In-maximal x ys ((s x).0 r.0) (λ y i. r.1 y ((s y).1 i))

    -- the members on top of a union are those of the members on top and the rest
    pub maximal-append : (xs ys : List A) → Same (maximal below (maximal below xs ++ ys)) (maximal below (xs ++ ys))
    maximal-append xs ys x = (there, back)
      where
        fewer : (y : A) → In y (maximal below xs ++ ys) → In y (xs ++ ys)
        fewer y h = elim (In-cases y (maximal below xs) ys h) [ inl a ↦ In-left y xs ys (maximal-In y xs a).0 | inr a ↦ In-right y xs ys a ]

        there : In x (maximal below (maximal below xs ++ ys)) → In x (maximal below (xs ++ ys))
        there h =
            let r = maximal-In x (maximal below xs ++ ys) h in
            In-maximal x (xs ++ ys) (fewer x r.0) (λ y i. elim (In-cases y xs ys i) [
              | inl a ↦ let m = top_of y xs a in is_false (below x y) (λ t. clash (below x m.0) (up_from x y m.0 t m.2) (r.1 m.0 (In-left m.0 (maximal below xs) ys m.1)))
              | inr a ↦ r.1 y (In-right y (maximal below xs) ys a)
            ])

        back : In x (maximal below (xs ++ ys)) → In x (maximal below (maximal below xs ++ ys))
        back h =
            let r = maximal-In x (xs ++ ys) h in
            In-maximal x (maximal below xs ++ ys) (elim (In-cases x xs ys r.0) [
              | inl a ↦ In-left x (maximal below xs) ys (In-maximal x xs a (λ y i. r.1 y (In-left y xs ys i)))
              | inr a ↦ In-right x (maximal below xs) ys a
            ]) (λ y i. r.1 y (fewer y i))

    -- what is on top of what is on top is just that
    pub maximal-maximal : (xs : List A) → Same (maximal below (maximal below xs)) (maximal below xs)
    maximal-maximal xs x = (λ h. (maximal-In x (maximal below xs) h).0, λ h. In-maximal x (maximal below xs) h (λ y i. (maximal-In x xs h).1 y (maximal-In y xs i).0))

  -- ---- the greatest
  module _ (cmp : A → A → Ordering) (o : IsTotalOrder cmp) (same : IsExact cmp) where
    -- below, as a test
    abbrev less : A → A → Bool
    less x y = is_lt (cmp x y)

    -- nothing is below itself
    pub less_irr : (x : A) → less x x ≡ false
    less_irr x = ap is_lt (tied_itself o x)

    -- below goes through
    pub less_trans : (x y z : A) → less x y ≡ true → less y z ≡ true → less x z ≡ true
    less_trans x y z h k = ap is_lt (o.trans x y z (lt_less _ h) (lt_less _ k))

    -- what is not below either way is equal
    neither : (r s : Ordering) → r ≡ ordering_reverse s → is_lt r ≡ false → is_lt s ≡ false → r ≡ Equal
    neither Less s e h k = clash true refl h
    neither Equal s e h k = refl
    neither Greater Less e h k = clash true refl k
    neither Greater Equal e h k = e
    neither Greater Greater e h k = absurd (true≢false (ap is_lt (sym e)))

    -- and so the same
    pub both_top : (x y : A) → less x y ≡ false → less y x ≡ false → x ≡ y
    both_top x y h k = same x y (neither (cmp x y) (cmp y x) (o.antisymm x y) h k)

    -- the greatest of a part that reaches as high
    pub greatest_reached : (xs ys : List A) → ((x : A) → In x ys → In x xs) → ((x : A) → In x xs → (m : A) × In m ys × ((x ≡ m) ⊎ (less x m ≡ true))) → greatest cmp ys ≡ greatest cmp xs
    greatest_reached [] [] part high = refl
    greatest_reached [] (y ∷ ys) part high = absurd (part y (inl refl))
    greatest_reached (x ∷ xs) [] part high = absurd (high x (inl refl)).1
    greatest_reached (x ∷ xs) (y ∷ ys) part high = ap Some (both_top v u (best-top less less_irr less_trans y ys u u_in) (best-top less less_irr less_trans x xs v (part v (best-in less less_irr less_trans y ys))))
      where
        u : A
        u = best less x xs

        v : A
        v = best less y ys

        reach : (m : A) → In m (y ∷ ys) → (u ≡ m) ⊎ (less u m ≡ true) → In u (y ∷ ys)
        reach m i (inl q) = subst (λ (z : A). In z (y ∷ ys)) (sym q) i
        reach m i (inr q) = clash (less u m) q (best-top less less_irr less_trans x xs m (part m i))

        u_in : In u (y ∷ ys)
        u_in = let h = high u (best-in less less_irr less_trans x xs) in reach h.0 h.1 h.2

    -- the greatest depends on the members alone
    pub greatest-Same : (xs ys : List A) → Same xs ys → greatest cmp ys ≡ greatest cmp xs
    greatest-Same xs ys s = greatest_reached xs ys (λ x. (s x).1) (λ x i. (x, (s x).0 i, inl refl))

module _ {A B : Type 0} (h : A → Option B) where
  -- what a member gives is there
  pub In-filter_map : (x : A) (y : B) (xs : List A) → In x xs → h x ≡ Some y → In y (filter_map h xs)
  In-filter_map x y [] i e = absurd i
  In-filter_map x y (z ∷ zs) (inl q) e = subst (λ (r : Option B). In y (cons_option r (filter_map h zs))) (sym e ∙ ap h q) (inl refl)
  In-filter_map x y (z ∷ zs) (inr i) e = elim (h z) as (λ r. In y (cons_option r (filter_map h zs))) [
    | None ↦ In-filter_map x y zs i e
    | Some w ↦ inr (In-filter_map x y zs i e)
  ]

  -- and what is there some member gives
  pub filter_map-In : (y : B) (xs : List A) → In y (filter_map h xs) → (x : A) × In x xs × (h x ≡ Some y)
  filter_map-In y [] = λ i. absurd i
  filter_map-In y (z ∷ zs) = elim (h z) as (λ r. h z ≡ r → In y (cons_option r (filter_map h zs)) → (x : A) × In x (z ∷ zs) × (h x ≡ Some y)) [
    | None ↦ λ _ i. let r = filter_map-In y zs i in (r.0, inr r.1, r.2)
    | Some w ↦ λ e. elim [ inl q ↦ (z, inl refl, e ∙ ap Some (sym q)) | inr i ↦ let r = filter_map-In y zs i in (r.0, inr r.1, r.2) ]
  ] refl

  -- from one list to the other
  part : (xs ys : List A) → Same xs ys → (y : B) → In y (filter_map h xs) → In y (filter_map h ys)
  part xs ys s y i = let r = filter_map-In y xs i in In-filter_map r.0 y ys ((s r.0).0 r.1) r.2

  -- what members give depends on the members alone
  pub filter_map-Same : (xs ys : List A) → Same xs ys → Same (filter_map h xs) (filter_map h ys)
  filter_map-Same xs ys s y = (part xs ys s y, part ys xs (Same-back xs ys s) y)

module _ {A B : Type 0} (f : A → B) where
  -- what a member maps to is there
  pub In-map : (x : A) (xs : List A) → In x xs → In (f x) (map f xs)
  In-map x [] h = absurd h
  In-map x (y ∷ ys) (inl q) = inl (ap f q)
  In-map x (y ∷ ys) (inr h) = inr (In-map x ys h)

  -- and what is there some member maps to
  pub map-In : (z : B) (xs : List A) → In z (map f xs) → (x : A) × In x xs × (z ≡ f x)
  map-In z [] h = absurd h
  map-In z (y ∷ ys) (inl q) = (y, inl refl, q)
  map-In z (y ∷ ys) (inr h) = let r = map-In z ys h in (r.0, inr r.1, r.2)

  -- maps depend on the members alone
  pub map-Same : (xs ys : List A) → Same xs ys → Same (map f xs) (map f ys)
  map-Same xs ys s z = (
    λ h. let r = map-In z xs h in subst (λ (w : B). In w (map f ys)) (sym r.2) (In-map r.0 ys ((s r.0).0 r.1)),
    λ h. let r = map-In z ys h in subst (λ (w : B). In w (map f xs)) (sym r.2) (In-map r.0 xs ((s r.0).1 r.1)),
  )

-- ---- parts that have nothing to do with each other
module _ {A : Type 0} (below : A → A → Bool) where
  -- no member of either is below one of the other
  pub record Apart (xs ys : List A) : Type 0 where
    pub forth : (x y : A) → In x xs → In y ys → below x y ≡ false
    pub back : (x y : A) → In x xs → In y ys → below y x ≡ false

module _ {A : Type 0} (below : A → A → Bool) (irr : (x : A) → below x x ≡ false) (trans : (x y z : A) → below x y ≡ true → below y z ≡ true → below x z ≡ true) where
  -- parts that are apart are on top each by itself
  pub maximal-apart : (xs ys : List A) → Apart below xs ys → Same (maximal below (xs ++ ys)) (maximal below xs ++ maximal below ys)
  maximal-apart xs ys a x = (there, back)
    where
      there : In x (maximal below (xs ++ ys)) → In x (maximal below xs ++ maximal below ys)
      there h =
          let r = maximal-In below irr trans x (xs ++ ys) h in
          elim (In-cases x xs ys r.0) [
            | inl i ↦ In-left x (maximal below xs) (maximal below ys) (In-maximal below irr trans x xs i (λ y j. r.1 y (In-left y xs ys j)))
            | inr i ↦ In-right x (maximal below xs) (maximal below ys) (In-maximal below irr trans x ys i (λ y j. r.1 y (In-right y xs ys j)))
          ]

      back : In x (maximal below xs ++ maximal below ys) → In x (maximal below (xs ++ ys))
      back h = elim (In-cases x (maximal below xs) (maximal below ys) h) [
        | inl i ↦
            let r = maximal-In below irr trans x xs i in
            In-maximal below irr trans x (xs ++ ys) (In-left x xs ys r.0) (λ y j. elim (In-cases y xs ys j) [ inl k ↦ r.1 y k | inr k ↦ a.forth x y r.0 k ])
        | inr i ↦
            let r = maximal-In below irr trans x ys i in
            In-maximal below irr trans x (xs ++ ys) (In-right x xs ys r.0) (λ y j. elim (In-cases y xs ys j) [ inl k ↦ a.back y x k r.0 | inr k ↦ r.1 y k ])
      ]
