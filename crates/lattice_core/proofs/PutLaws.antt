-- A field put where it stands among kept facts.
use Rattle.std.proofs.Common.{◌≡◌, ℕ, zero, suc, ◌<◌, ◌≤◌, Bool, true, false, List, [], ◌∷◌, ◌++◌, length, get_or, map, take, drop, set, ◌⊎◌, inl, inr, refl, sym, ap, ◌∙◌, subst, append_assoc, arith, Result, Ok, Err, Ordering, Less, Equal, Greater}
use Rattle.std.proofs.lemmas.List.{map-append, set_split, set-get_or}
use Rattle.std.specs.Ordering.{is_eq, is_lt, ordering_reverse, ordering_then}
use Rattle.std.specs.Option.{option_cmp}
use Rattle.std.specs.List.{list_any, insert}
use Rattle.std.specs.List.Sorted.{IsBinarySearchResult}
use Rattle.std.specs.Result.{IfOk, IfErr}
use Rattle.std.specs.Cmp.{tied_itself, Equal-is, first_so}
use Rattle.pcrf_values.specs.Ascending.{Rises}
use Rattle.pcrf_values.specs.Sets.{In, Same}
use Rattle.pcrf_values.proofs.Plain.{clash, is_false}
use Rattle.pcrf_values.proofs.SetLaws.{In-left, In-right, In-cases, none-any, Same-itself, Same-append, Same-turn}
use Rattle.pcrf_values.specs.Places.{Position, position_cmp}
use Rattle.pcrf_values.specs.Values.{entry_cmp}
use Rattle.pcrf_values.specs.Facts.{Fact, End, Removed, Field, Aborted, position, entry, fact_cmp, is_shaded_by}
use Rattle.pcrf_values.specs.Held.{kept_list, join_of}
use Rattle.pcrf_values.proofs.FactLaws.{fact_ranked, position_ranked, shaded_irr, shaded_trans}
use Rattle.pcrf_values.proofs.JoinedLaws.{held-Same, joined-held}
use Rattle.lattice_core.specs.Beneath.{beneath_of, removes, stands_at}
use Rattle.lattice_core.specs.Orders.{AtOrUnder, IsGap, is_field}
use Rattle.lattice_core.proofs.BeneathLaws.{shades_beneath}
use Rattle.lattice_core.proofs.MergeLaws.{join_none}
use Rattle.lattice_core.proofs.SearchLaws.{searchable}
use Rattle.lattice_core.proofs.ThereLaws.{cut, gap_none}
use Rattle.lattice_core.proofs.KeepLaws.{kept_places, covered_gone, covered_joins, kept_when, kept_rises, kept_free, held_drop, same_position, position_first, rises_front, front_below, lower}

-- ---- lists with one in their middle

-- the rest of a rising list rises
rises_back : (js ks : List Fact) → Rises fact_cmp (js ++ ks) → Rises fact_cmp ks
rises_back [] ks r = r
rises_back (x ∷ js) ks r = rises_back js ks r.1

-- a member of the whole is of the rest, or is the one
mid_cases : (js ks : List Fact) (f x : Fact) → In x (js ++ f ∷ ks) → In x (js ++ ks) ⊎ (x ≡ f)
mid_cases js ks f x i = by (In-cases x js (f ∷ ks) i)
  where
    by : In x js ⊎ In x (f ∷ ks) → In x (js ++ ks) ⊎ (x ≡ f)
    by (inl j) = inl (In-left x js ks j)
    by (inr (inl e)) = inr e
    by (inr (inr j)) = inl (In-right x js ks j)

-- a rising list with one in its gap rises
rises_mid : (js ks : List Fact) (f : Fact) → Rises fact_cmp js → Rises fact_cmp ks → ((x y : Fact) → In x js → In y ks → fact_cmp x y ≡ Less)
    → ((g : Fact) → In g js → fact_cmp g f ≡ Less) → ((g : Fact) → In g ks → fact_cmp f g ≡ Less) → Rises fact_cmp (js ++ f ∷ ks)
rises_mid [] ks f r s b low high = (high, s)
rises_mid (x ∷ js) ks f r s b low high = (
  λ y i. at (In-cases y js (f ∷ ks) i),
  rises_mid js ks f r.1 s (λ u v i j. b u v (inr i) j) (λ g i. low g (inr i)) high,
)
  where
    at : {y : Fact} → In y js ⊎ In y (f ∷ ks) → fact_cmp x y ≡ Less
    at {y} (inl i) = r.0 y i
    at {y} (inr (inl e)) = ap (fact_cmp x) e ∙ low x (inl refl)
    at {y} (inr (inr i)) = b x y (inl refl) i

-- a field overshadows only what stands at its position
field_shades : (f x : Fact) → is_field f ≡ true → is_shaded_by x f ≡ true → is_eq (position_cmp (position x) (position f)) ≡ true
field_shades End x h s = clash false h refl
field_shades (Removed r) x h s = clash false h refl
field_shades Aborted x h s = clash false h refl
field_shades (Field p t v) Aborted h s = clash false s refl
field_shades (Field p t v) End h s = clash false s refl
field_shades (Field p t v) (Removed r) h s = clash false s refl
field_shades (Field p t v) (Field q u w) h s = first_so _ _ s

-- ---- a field in its gap
module _ (js ks : List Fact) (f : Fact) (is : is_field f ≡ true) (gap : IsGap (position f) js ks) where
  -- those before it don't stand where it does
  apart_low : (x : Fact) → In x js → is_eq (position_cmp (position x) (position f)) ≡ false
  apart_low x i = ap is_eq (gap.below x i)

  -- nor do those after it
  apart_high : (x : Fact) → In x ks → is_eq (position_cmp (position x) (position f)) ≡ false
  apart_high x i = ap is_eq (position_ranked.total.antisymm (position x) (position f) ∙ ap ordering_reverse (gap.above x i))

  -- so none does
  apart : (x : Fact) → In x (js ++ ks) → is_eq (position_cmp (position x) (position f)) ≡ false
  apart x i = by (In-cases x js ks i)
    where
      by : In x js ⊎ In x ks → is_eq (position_cmp (position x) (position f)) ≡ false
      by (inl j) = apart_low x j
      by (inr j) = apart_high x j

  -- where the others are kept and none overshadows it, all are kept
  pub placed : Rises fact_cmp js → Rises fact_cmp ks → ((x y : Fact) → In x js → In y ks → fact_cmp x y ≡ Less)
      → ((x y : Fact) → In x (js ++ ks) → In y (js ++ ks) → is_shaded_by x y ≡ false)
      → ((g : Fact) → In g (js ++ ks) → is_shaded_by f g ≡ false)
      → kept_list (js ++ f ∷ ks) ≡ js ++ f ∷ ks
  placed r s b free none =
      kept_when (js ++ f ∷ ks)
      (rises_mid js ks f r s b (λ g i. position_first g f (gap.below g i)) (λ g i. position_first f g (gap.above g i)))
      (λ x y i j. pair x y (mid_cases js ks f x i) (mid_cases js ks f y j))
    where
      above : (x y : Fact) → In x (js ++ ks) → y ≡ f → is_shaded_by x y ≡ false
      above x y i e = is_false (is_shaded_by x y) (λ t. clash (is_eq (position_cmp (position x) (position f))) (field_shades f x is (subst (λ (z : Fact). is_shaded_by x z ≡ true) e t)) (apart x i))

      pair : (x y : Fact) → In x (js ++ ks) ⊎ (x ≡ f) → In y (js ++ ks) ⊎ (y ≡ f) → is_shaded_by x y ≡ false
      pair x y (inl i) (inl j) = free x y i j
      pair x y (inl i) (inr e) = above x y i e
      pair x y (inr e) (inl j) = ap (λ (z : Fact). is_shaded_by z y) e ∙ none y j
      pair x y (inr e) (inr d) = ap (λ (z : Fact). is_shaded_by z y) (e ∙ sym d) ∙ shaded_irr y

  -- at a new position
  pub place_new : kept_list (js ++ ks) ≡ js ++ ks → list_any (removes (beneath_of f)) (js ++ ks) ≡ false → js ++ f ∷ ks ≡ join_of (js ++ ks) (f ∷ [])
  place_new k gone =
      sym (held-Same ((js ++ ks) ++ f ∷ []) (js ++ f ∷ ks) same
      ∙ placed (rises_front js ks (kept_rises _ k)) (rises_back js ks (kept_rises _ k)) (front_below js ks (kept_rises _ k)) (kept_free _ k)
      (λ g i. shades_beneath f g (turned g i) ∙ none-any (removes (beneath_of f)) (js ++ ks) gone g i))
    where
      turned : (g : Fact) → In g (js ++ ks) → is_eq (position_cmp (position f) (position g)) ≡ false
      turned g i = is_false _ (λ t. clash (is_eq (position_cmp (position g) (position f))) (ap is_eq (position_ranked.total.antisymm (position g) (position f) ∙ ap ordering_reverse ((Equal-is _).0 t))) (apart g i))

      same : Same ((js ++ ks) ++ f ∷ []) (js ++ f ∷ ks)
      same = subst (λ (l : List Fact). Same l (js ++ f ∷ ks)) (sym (append_assoc js ks (f ∷ []))) (Same-append js (ks ++ f ∷ []) js (f ∷ ks) (Same-itself js) (Same-turn ks (f ∷ [])))

  -- in the place of one that it overshadows
  pub place_over : (x : Fact) → kept_list (js ++ x ∷ ks) ≡ js ++ x ∷ ks → is_shaded_by x f ≡ true → js ++ f ∷ ks ≡ join_of (js ++ x ∷ ks) (f ∷ [])
  place_over x k s =
      sym (held-Same ((js ++ x ∷ ks) ++ f ∷ []) ((js ++ f ∷ ks) ++ x ∷ []) swapped
      ∙ held_drop x f (js ++ f ∷ ks) (In-right f js (f ∷ ks) (inl refl)) (inr s)
      ∙ placed (rises_front js (x ∷ ks) (kept_rises _ k)) (rises_back js (x ∷ ks) (kept_rises _ k)).1 (λ u v i j. front_below js (x ∷ ks) (kept_rises _ k) u v i (inr j))
      (λ u v i j. kept_free _ k u v (more u i) (more v j))
      (λ g i. is_false (is_shaded_by f g) (λ t. clash (is_shaded_by x g) (shaded_trans x f g s t) (kept_free _ k x g (In-right x js (x ∷ ks) (inl refl)) (more g i)))))
    where
      more_by : (u : Fact) → In u js ⊎ In u ks → In u (js ++ x ∷ ks)
      more_by u (inl i) = In-left u js (x ∷ ks) i
      more_by u (inr i) = In-right u js (x ∷ ks) (inr i)

      more : (u : Fact) → In u (js ++ ks) → In u (js ++ x ∷ ks)
      more u i = more_by u (In-cases u js ks i)

      to : (a b u : Fact) → In u ((js ++ a ∷ ks) ++ b ∷ []) → In u ((js ++ b ∷ ks) ++ a ∷ [])
      to a b u i = by (In-cases u (js ++ a ∷ ks) (b ∷ []) i)
        where
          inner : In u (js ++ ks) ⊎ (u ≡ a) → In u ((js ++ b ∷ ks) ++ a ∷ [])
          inner (inl j) = In-left u (js ++ b ∷ ks) (a ∷ []) (wide (In-cases u js ks j))
            where
              wide : In u js ⊎ In u ks → In u (js ++ b ∷ ks)
              wide (inl h) = In-left u js (b ∷ ks) h
              wide (inr h) = In-right u js (b ∷ ks) (inr h)
          inner (inr e) = In-right u (js ++ b ∷ ks) (a ∷ []) (inl e)

          by : In u (js ++ a ∷ ks) ⊎ In u (b ∷ []) → In u ((js ++ b ∷ ks) ++ a ∷ [])
          by (inl j) = inner (mid_cases js ks a u j)
          by (inr (inl e)) = In-left u (js ++ b ∷ ks) (a ∷ []) (In-right u js (b ∷ ks) (inl e))
          by (inr (inr j)) = absurd j

      swapped : Same ((js ++ x ∷ ks) ++ f ∷ []) ((js ++ f ∷ ks) ++ x ∷ [])
      swapped u = (to x f u, to f x u)

-- ---- the same of typed facts

module _ {A : Type 0} (fact : A → Fact) where
  -- what a search saw before a place
  pub seen_low : (p : Position) (xs : List A) (at : ℕ) → ((k : ℕ) (d : A) → k < at → position_cmp (position (fact (get_or xs k d))) p ≡ Less) → (g : Fact) → In g (map fact (take at xs)) → position_cmp (position g) p ≡ Less
  seen_low p xs zero h g i = absurd i
  seen_low p [] (suc at) h g i = absurd i
  seen_low p (x ∷ xs) (suc at) h g (inl e) = ap (λ (z : Fact). position_cmp (position z) p) e ∙ h zero x (omega arith)
  seen_low p (x ∷ xs) (suc at) h g (inr i) = seen_low p xs at (λ k d lt. h (suc k) d (omega arith)) g i

  -- and from it on
  pub seen_high : (p : Position) (xs : List A) (at : ℕ) → ((k : ℕ) (d : A) → at ≤ k → k < length xs → position_cmp (position (fact (get_or xs k d))) p ≡ Greater) → (g : Fact) → In g (map fact (drop at xs)) → position_cmp p (position g) ≡ Less
  seen_high p [] zero h g i = absurd i
  seen_high p (x ∷ xs) zero h g (inl e) = position_ranked.total.antisymm p (position g) ∙ ap ordering_reverse (ap (λ (z : Fact). position_cmp (position z) p) e ∙ h zero x (omega arith) (omega arith))
  seen_high p (x ∷ xs) zero h g (inr i) = seen_high p xs zero (λ k d le lt. h (suc k) d (omega arith) (omega arith)) g i
  seen_high p [] (suc at) h g i = absurd i
  seen_high p (x ∷ xs) (suc at) h g i = seen_high p xs at (λ k d le lt. h (suc k) d (omega arith) (omega arith)) g i

  -- a field goes into its gap
  pub put_new : (xs are : List A) (at : ℕ) (f : A) → are ≡ insert xs at f → is_field (fact f) ≡ true → IsGap (position (fact f)) (map fact (take at xs)) (map fact (drop at xs))
      → kept_list (map fact xs) ≡ map fact xs → list_any (removes (beneath_of (fact f))) (map fact xs) ≡ false → map fact are ≡ join_of (map fact xs) (fact f ∷ [])
  put_new xs are at f e is gap k gone =
      let parts : map fact (take at xs) ++ map fact (drop at xs) ≡ map fact xs = sym (map-append fact (take at xs) (drop at xs)) ∙ ap (map fact) (cut at xs) in
      ap (map fact) e ∙ map-append fact (take at xs) (f ∷ drop at xs)
      ∙ place_new (map fact (take at xs)) (map fact (drop at xs)) (fact f) is gap
      (subst (λ (l : List Fact). kept_list l ≡ l) (sym parts) k)
      (ap (list_any (removes (beneath_of (fact f)))) parts ∙ gone)
      ∙ ap (λ (l : List Fact). join_of l (fact f ∷ [])) parts

  -- a list about one of its places
  about : (xs : List A) (at : ℕ) (d : A) → at < length xs → take at xs ++ get_or xs at d ∷ drop (suc at) xs ≡ xs
  about xs at d lt = sym (set_split xs at (get_or xs at d) lt) ∙ set-get_or xs at d

  -- a field takes the place of one that it overshadows
  pub put_at : (xs are : List A) (at : ℕ) (x f : A) → at < length xs → x ≡ get_or xs at x → are ≡ set xs at f → is_field (fact f) ≡ true → position (fact x) ≡ position (fact f)
      → is_lt (option_cmp entry_cmp (entry (fact x)) (entry (fact f))) ≡ true → kept_list (map fact xs) ≡ map fact xs → map fact are ≡ join_of (map fact xs) (fact f ∷ [])
  put_at xs are at x f lt here e is p up k =
      let js = map fact (take at xs) in
      let ks = map fact (drop (suc at) xs) in
      let whole : take at xs ++ x ∷ drop (suc at) xs ≡ xs = subst (λ (z : A). take at xs ++ z ∷ drop (suc at) xs ≡ xs) (sym here) (about xs at x lt) in
      let parts : js ++ fact x ∷ ks ≡ map fact xs = sym (map-append fact (take at xs) (x ∷ drop (suc at) xs)) ∙ ap (map fact) whole in
      let kept : kept_list (js ++ fact x ∷ ks) ≡ js ++ fact x ∷ ks = subst (λ (l : List Fact). kept_list l ≡ l) (sym parts) k in
      let same : position_cmp (position (fact x)) (position (fact f)) ≡ Equal = ap (position_cmp (position (fact x))) (sym p) ∙ tied_itself position_ranked.total (position (fact x)) in
      let entries : option_cmp entry_cmp (entry (fact x)) (entry (fact f)) ≡ Less = is_less _ up in
      let below : fact_cmp (fact x) (fact f) ≡ Less = ap (λ o. ordering_then o (option_cmp entry_cmp (entry (fact x)) (entry (fact f)))) same ∙ entries in
      let here_in = In-right (fact x) js (fact x ∷ ks) (inl refl) in
      let gap : IsGap (position (fact f)) js ks = record {
        below = λ g i. subst (λ q. position_cmp (position g) q ≡ Less) p (lower (js ++ fact x ∷ ks) kept g (fact x) (In-left g js (fact x ∷ ks) i) here_in (front_below js (fact x ∷ ks) (kept_rises _ kept) g (fact x) i (inl refl)));
        above = λ g i. subst (λ q. position_cmp q (position g) ≡ Less) p (lower (js ++ fact x ∷ ks) kept (fact x) g here_in (In-right g js (fact x ∷ ks) (inr i)) ((rises_back js (fact x ∷ ks) (kept_rises _ kept)).0 g i));
      } in
      ap (map fact) (e ∙ set_split xs at f lt) ∙ map-append fact (take at xs) (f ∷ drop (suc at) xs)
      ∙ place_over js ks (fact f) is gap (fact x) kept (same_position (fact x) (fact f) same below)
      ∙ ap (λ (l : List Fact). join_of l (fact f ∷ [])) parts
    where
      is_less : (o : Ordering) → is_lt o ≡ true → o ≡ Less
      is_less Less h = refl
      is_less Equal h = clash false h refl
      is_less Greater h = clash false h refl

  -- what a search found
  pub seen_found : (p : Position) (xs : List A) (r : Result ℕ ℕ) → IsBinarySearchResult (λ x. position_cmp (position (fact x)) p) xs r → IfOk r (λ i. (d : A) → position (fact (get_or xs i d)) ≡ p)
  seen_found p xs (Ok i) h = λ d. position_ranked.same (position (fact (get_or xs i d))) p (h d)
  seen_found p xs (Err i) h = tt

  -- and where it found nothing
  pub seen_gap : (p : Position) (xs : List A) (r : Result ℕ ℕ) → kept_list (map fact xs) ≡ map fact xs → IsBinarySearchResult (λ x. position_cmp (position (fact x)) p) xs r → IfErr r (λ i. IsGap p (map fact (take i xs)) (map fact (drop i xs)))
  seen_gap p xs (Ok i) k h = tt
  seen_gap p xs (Err i) k parted =
      let sides = parted (searchable position_cmp position_ranked.total fact position xs p (kept_places (map fact xs) k)) in
      record {
        below = seen_low p xs i (λ k d lt. sides.0 k d (omega arith) lt);
        above = seen_high p xs i sides.1;
      }

  -- a field that is removed adds nothing
  pub put_gone : (xs : List A) (at : ℕ) (f : A) → IsGap (position (fact f)) (map fact (take at xs)) (map fact (drop at xs)) → kept_list (map fact xs) ≡ map fact xs
      → list_any (removes (beneath_of (fact f))) (map fact xs) ≡ true → map fact xs ≡ join_of (map fact xs) (fact f ∷ [])
  put_gone xs at f gap k gone = sym (covered_joins (map fact xs) [] (fact f) k (covered_gone (map fact xs) (fact f) none gone) ∙ join_none (map fact xs) k)
    where
      none : (g : Fact) → In g (map fact xs) → position g ≡ position (fact f) → ⊥
      none g i e = clash (stands_at (position (fact f)) g) (ap is_eq (ap (position_cmp (position g)) (sym e) ∙ tied_itself position_ranked.total (position g)))
          (none-any (stands_at (position (fact f))) (map fact xs) (gap_none fact xs at (position (fact f)) gap) g i)

  -- the last of a list is in it
  pub last_in : (xs ys : List A) (x : A) → xs ≡ ys ++ x ∷ [] → In (fact x) (map fact xs)
  last_in xs ys x e = subst (λ (l : List Fact). In (fact x) l) (sym (ap (map fact) e ∙ map-append fact ys (x ∷ []))) (In-right (fact x) (map fact ys) (fact x ∷ []) (inl refl))

  -- and so are those before it
  pub front_in : (xs ys : List A) (x : A) → xs ≡ ys ++ x ∷ [] → (f : Fact) → In f (map fact ys) → In f (map fact xs)
  front_in xs ys x e f i = subst (λ (l : List Fact). In f l) (sym (ap (map fact) e ∙ map-append fact ys (x ∷ []))) (In-left f (map fact ys) (fact x ∷ []) i)

  -- with the last of what is left
  pub popped_joins : (ks : List Fact) (xs ys : List A) (x : A) → xs ≡ ys ++ x ∷ [] → join_of (join_of ks (fact x ∷ [])) (map fact ys) ≡ join_of ks (map fact xs)
  popped_joins ks xs ys x e =
      joined-held (ks ++ fact x ∷ []) (map fact ys)
      ∙ ap kept_list (append_assoc ks (fact x ∷ []) (map fact ys))
      ∙ held-Same (ks ++ fact x ∷ map fact ys) (ks ++ (map fact ys ++ fact x ∷ [])) (Same-append ks (fact x ∷ map fact ys) ks (map fact ys ++ fact x ∷ []) (Same-itself ks) (Same-turn (fact x ∷ []) (map fact ys)))
      ∙ ap (join_of ks) (sym (ap (map fact) e ∙ map-append fact ys (x ∷ [])))
