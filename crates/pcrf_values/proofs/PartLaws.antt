-- What is on top of a list that falls into parts under keys is on top of its part, for any strict order.
use Rattle.std.proofs.Common.{◌≡◌, Bool, true, false, List, [], ◌∷◌, ◌++◌, ◌⊎◌, ◌↔◌, Option, Some, inl, inr, refl, sym, ◌∙◌, subst}
use Rattle.std.specs.List.{flat_map}
use Rattle.pcrf_values.specs.Sets.{In, Same, maximal}
use Rattle.pcrf_values.proofs.Plain.{clash, is_false, some_same}
use Rattle.pcrf_values.proofs.SetLaws.{In-left, In-right, In-cases, maximal-In, In-maximal}

-- a strict order, as a test
pub record IsStrict {A : Type 0} (below : A → A → Bool) : Type 0 where
  pub irr : (x : A) → below x x ≡ false
  pub trans : (x y z : A) → below x y ≡ true → below y z ≡ true → below x z ≡ true

-- What the join of two values has is on top of what both have; and what a value has is all on top.
pub record Keeps {A V : Type 0} (below : A → A → Bool) (valid : V → Type 0) (join : V → V → V) (facts : V → List A) : Type 0 where
  pub both : (v w : V) → valid v → valid w → Same (facts (join v w)) (maximal below (facts v ++ facts w))
  pub own : (v : V) → valid v → Same (facts v) (maximal below (facts v))

-- through a third
pub through : {P Q R : Type 0} → (P ↔ Q) → (Q ↔ R) → (P ↔ R)
through f g = (λ x. g.0 (f.0 x), λ z. f.1 (g.1 z))

-- ---- lists that lists are joined to
module _ {X A : Type 0} (f : X → List A) where
  -- what a member's list has is there
  pub In-flat_map : (x : X) (a : A) (xs : List X) → In x xs → In a (f x) → In a (flat_map f xs)
  In-flat_map x a [] i j = absurd i
  In-flat_map x a (y ∷ ys) (inl e) j = In-left a (f y) (flat_map f ys) (subst (λ (z : X). In a (f z)) e j)
  In-flat_map x a (y ∷ ys) (inr i) j = In-right a (f y) (flat_map f ys) (In-flat_map x a ys i j)

  -- and what is there a member's list has
  pub flat_map-In : (a : A) (xs : List X) → In a (flat_map f xs) → (x : X) × In x xs × In a (f x)
  flat_map-In a [] i = absurd i
  flat_map-In a (y ∷ ys) i = elim (In-cases a (f y) (flat_map f ys) i) [
    | inl j ↦ (y, inl refl, j)
    | inr j ↦ let r = flat_map-In a ys j in (r.0, inr r.1, r.2)
  ]

-- ---- one above all
module _ {A : Type 0} {below : A → A → Bool} (strict : IsStrict below) where
  -- a member above all others is alone on top
  pub only_top : (top : A) (xs : List A) → In top xs → ((a : A) → In a xs → (a ≡ top) ⊎ (below a top ≡ true)) → Same (top ∷ []) (maximal below xs)
  only_top top xs i h a = (there, back)
    where
      alone : (b : A) → (b ≡ top) ⊎ (below b top ≡ true) → below top b ≡ false
      alone b (inl e) = subst (λ (z : A). below top z ≡ false) (sym e) (strict.irr top)
      alone b (inr s) = is_false (below top b) (λ t. clash (below top top) (strict.trans top b top t s) (strict.irr top))

      there : In a (top ∷ []) → In a (maximal below xs)
      there (inl e) = subst (λ (z : A). In z (maximal below xs)) (sym e) (In-maximal below strict.irr strict.trans top xs i (λ b j. alone b (h b j)))
      there (inr j) = absurd j

      one : (In a xs × ((g : A) → In g xs → below a g ≡ false)) → (a ≡ top) ⊎ (below a top ≡ true) → In a (top ∷ [])
      one k (inl e) = inl e
      one k (inr s) = clash (below a top) s (k.1 top i)

      back : In a (maximal below xs) → In a (top ∷ [])
      back j = let k = maximal-In below strict.irr strict.trans a xs j in one k (h a k.0)

  -- one alone is on top
  pub one_kept : (f : A) → Same (f ∷ []) (maximal below (f ∷ []))
  one_kept f = only_top f (f ∷ []) (inl refl) (λ a. elim [ inl e ↦ inl e | inr i ↦ absurd i ])

-- ---- parts under keys
-- the list is made of parts, each under its key
pub record IsMadeOf {A K : Type 0} (key : A → Option K) (us : List A) (part : K → List A) : Type 0 where
  pub into : (a : A) → In a us → (k : K) × In a (part k)
  pub back : (k : K) (a : A) → In a (part k) → In a us
  pub keyed : (k : K) (a : A) → In a (part k) → key a ≡ Some k

-- what is below a member under a key is under that key
pub record IsRising {A K : Type 0} (below : A → A → Bool) (key : A → Option K) : Type 0 where
  pub rise : (a b : A) (k : K) → below a b ≡ true → key b ≡ Some k → key a ≡ Some k

-- a member under a key is in that key's part
pub part_at : {A K : Type 0} {key : A → Option K} {us : List A} {part : K → List A} → IsMadeOf key us part → (k : K) (a : A) → key a ≡ Some k → In a us ↔ In a (part k)
part_at {K = K} {part = part} m k a e = (
  λ i. let r = m.into a i in subst (λ (l : K). In a (part l)) (some_same r.0 k (sym (m.keyed r.0 a r.1) ∙ e)) r.1,
  λ i. m.back k a i,
)

module _ {A K : Type 0} {below : A → A → Bool} {key : A → Option K} (strict : IsStrict below) (rising : IsRising below key) where
  -- what is on top of parts under keys is on top of each
  pub parts_kept : (us ws : List A) (pu pw : K → List A) → IsMadeOf key us pu → IsMadeOf key ws pw → ((k : K) → Same (pw k) (maximal below (pu k))) → Same ws (maximal below us)
  parts_kept us ws pu pw mu mw at a = (there, back)
    where
      there : In a ws → In a (maximal below us)
      there h =
          let r = mw.into a h in
          let m = maximal-In below strict.irr strict.trans a (pu r.0) ((at r.0 a).0 r.1) in
          In-maximal below strict.irr strict.trans a us (mu.back r.0 a m.0) (λ b i. is_false (below a b) (λ t.
          let s = mu.into b i in
          let e : s.0 ≡ r.0 = some_same s.0 r.0 (sym (rising.rise a b s.0 t (mu.keyed s.0 b s.1)) ∙ mu.keyed r.0 a m.0) in
          clash (below a b) t (m.1 b (subst (λ (l : K). In b (pu l)) e s.1))))

      back : In a (maximal below us) → In a ws
      back h =
          let m = maximal-In below strict.irr strict.trans a us h in
          let r = mu.into a m.0 in
          mw.back r.0 a ((at r.0 a).1 (In-maximal below strict.irr strict.trans a (pu r.0) r.1 (λ b i. m.1 b (mu.back r.0 b i))))

-- two lists made of parts, together
pub made_of_both : {A K : Type 0} {key : A → Option K} (us vs : List A) (pu pv : K → List A) → IsMadeOf key us pu → IsMadeOf key vs pv → IsMadeOf key (us ++ vs) (λ k. pu k ++ pv k)
made_of_both us vs pu pv mu mv = record {
  into = λ a i. elim (In-cases a us vs i) [
    | inl j ↦ let r = mu.into a j in (r.0, In-left a (pu r.0) (pv r.0) r.1)
    | inr j ↦ let r = mv.into a j in (r.0, In-right a (pu r.0) (pv r.0) r.1)
  ];
  back = λ k a i. elim (In-cases a (pu k) (pv k) i) [ inl j ↦ In-left a us vs (mu.back k a j) | inr j ↦ In-right a us vs (mv.back k a j) ];
  keyed = λ k a i. elim (In-cases a (pu k) (pv k) i) [ inl j ↦ mu.keyed k a j | inr j ↦ mv.keyed k a j ];
}
