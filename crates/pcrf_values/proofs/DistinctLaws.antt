-- Lists in which no member comes twice: their parts, their filters, and what is left of a filter past its first members.
use Rattle.std.proofs.Common.{◌≡◌, ℕ, zero, suc, Bool, true, false, cond, List, [], ◌∷◌, map, take, drop, ◌⊎◌, inl, inr, refl, sym, ap, ◌∙◌, subst}
use Rattle.std.specs.List.{filter}
use Rattle.pcrf_values.proofs.Plain.{clash}
use Rattle.pcrf_values.specs.Sets.{In, Distinct}
use Rattle.pcrf_values.proofs.SetLaws.{filter-In, In-map, map-In}

module _ {A : Type 0} where
  -- a member is among the first n, or past them
  pub take_or_drop : (n : ℕ) (x : A) (xs : List A) → In x xs → In x (take n xs) ⊎ In x (drop n xs)
  take_or_drop zero x xs i = inr i
  take_or_drop (suc n) x [] i = absurd i
  take_or_drop (suc n) x (y ∷ ys) (inl q) = inl (inl q)
  take_or_drop (suc n) x (y ∷ ys) (inr i) = elim (take_or_drop n x ys i) [ inl j ↦ inl (inr j) | inr j ↦ inr j ]

  -- what is among the first is a member
  pub take-In : (n : ℕ) (x : A) (xs : List A) → In x (take n xs) → In x xs
  take-In zero x xs i = absurd i
  take-In (suc n) x [] i = absurd i
  take-In (suc n) x (y ∷ ys) (inl q) = inl q
  take-In (suc n) x (y ∷ ys) (inr i) = inr (take-In n x ys i)

  -- what is past them is a member
  pub drop-In : (n : ℕ) (x : A) (xs : List A) → In x (drop n xs) → In x xs
  drop-In zero x xs i = i
  drop-In (suc n) x [] i = absurd i
  drop-In (suc n) x (y ∷ ys) i = inr (drop-In n x ys i)

  -- what is among the first is not among the rest
  pub not_in_both : (n : ℕ) (x : A) (xs : List A) → Distinct xs → In x (take n xs) → In x (drop n xs) → ⊥
  not_in_both zero x xs d i j = absurd i
  not_in_both (suc n) x [] d i j = absurd i
  not_in_both (suc n) x (y ∷ ys) d (inl q) j = d.0 (subst (λ (z : A). In z ys) q (drop-In n x ys j))
  not_in_both (suc n) x (y ∷ ys) d (inr i) j = not_in_both n x ys d.1 i j

  -- a filter keeps members distinct
  pub Distinct-filter : (p : A → Bool) (xs : List A) → Distinct xs → Distinct (filter p xs)
  Distinct-filter p [] d = tt
  Distinct-filter p (x ∷ xs) d = elim (p x) as (λ b. Distinct (cond b (x ∷ filter p xs) (filter p xs))) [
    | true ↦ (λ i. d.0 (filter-In p x xs i).0, Distinct-filter p xs d.1)
    | false ↦ Distinct-filter p xs d.1
  ]

  -- members of one key are one
  pub one_of_key : {B : Type 0} (f : A → B) (xs : List A) → Distinct (map f xs) → (x y : A) → In x xs → In y xs → f x ≡ f y → x ≡ y
  one_of_key f [] d x y i j e = absurd i
  one_of_key {B} f (z ∷ zs) d x y (inl q) (inl r) e = q ∙ sym r
  one_of_key {B} f (z ∷ zs) d x y (inl q) (inr j) e = absurd (d.0 (subst (λ (w : B). In w (map f zs)) (sym e ∙ ap f q) (In-map f y zs j)))
  one_of_key {B} f (z ∷ zs) d x y (inr i) (inl r) e = absurd (d.0 (subst (λ (w : B). In w (map f zs)) (e ∙ ap f r) (In-map f x zs i)))
  one_of_key {B} f (z ∷ zs) d x y (inr i) (inr j) e = one_of_key f zs d.1 x y i j e

  -- members with distinct keys are distinct
  pub Distinct-of_map : {B : Type 0} (f : A → B) (xs : List A) → Distinct (map f xs) → Distinct xs
  Distinct-of_map f [] d = tt
  Distinct-of_map f (x ∷ xs) d = (λ i. d.0 (In-map f x xs i), Distinct-of_map f xs d.1)

  -- keys of distinct members are distinct, where members of one key are one
  pub Distinct-map : {B : Type 0} (f : A → B) (xs : List A) → Distinct xs → ((x y : A) → In x xs → In y xs → f x ≡ f y → x ≡ y) → Distinct (map f xs)
  Distinct-map f [] d one = tt
  Distinct-map f (x ∷ xs) d one = (
    λ i. let r = map-In f (f x) xs i in d.0 (subst (λ (z : A). In z xs) (sym (one x r.0 (inl refl) (inr r.1) r.2)) r.1),
    Distinct-map f xs d.1 (λ y z i j. one y z (inr i) (inr j)),
  )

  -- a filter by all but the first n that another filter keeps gives what that filter keeps past them
  module _ (p q : A → Bool) where
    -- what the second keeps of xs is told by what the first keeps, and its first n
    abbrev NotFirst : ℕ → List A → List A → Type 0
    NotFirst n xs fs = (x : A) → In x xs → q x ≡ true → In x (take n fs) → ⊥

    -- what the first keeps past its first n, the second keeps
    abbrev ElseKept : ℕ → List A → List A → Type 0
    ElseKept n xs fs = (x : A) → In x xs → p x ≡ true → (In x (take n fs) → ⊥) → q x ≡ true

    -- with one member more, by what both filters say of it
    one_more : (n : ℕ) (x : A) (xs : List A) (u v : Bool) → p x ≡ u → q x ≡ v → (In x xs → ⊥)
        → (q x ≡ true → p x ≡ true)
        → NotFirst n (x ∷ xs) (cond u (x ∷ filter p xs) (filter p xs))
        → ElseKept n (x ∷ xs) (cond u (x ∷ filter p xs) (filter p xs))
        → ((m : ℕ) → NotFirst m xs (filter p xs) → ElseKept m xs (filter p xs) → filter q xs ≡ drop m (filter p xs))
        → cond v (x ∷ filter q xs) (filter q xs) ≡ drop n (cond u (x ∷ filter p xs) (filter p xs))
    one_more n x xs false true e f new a b c before = clash (p x) (a f) e
    one_more n x xs false false e f new a b c before = before n (λ y i. b y (inr i)) (λ y i. c y (inr i))
    one_more zero x xs true true e f new a b c before = ap (λ (l : List A). x ∷ l) (before zero (λ y i t j. absurd j) (λ y i t k. c y (inr i) t (λ j. absurd j)))
    one_more zero x xs true false e f new a b c before = clash (q x) (c x (inl refl) e (λ j. absurd j)) f
    one_more (suc n) x xs true true e f new a b c before = absurd (b x (inl refl) f (inl refl))
    one_more (suc n) x xs true false e f new a b c before = before n
        (λ y i t j. b y (inr i) t (inr j))
        (λ y i t k. c y (inr i) t (elim [ inl r ↦ new (subst (λ (z : A). In z xs) r i) | inr j ↦ k j ]))

    -- so the second filter gives what the first gives past its first n
    pub filter_past : (n : ℕ) (xs : List A) → Distinct xs → ((x : A) → In x xs → q x ≡ true → p x ≡ true)
        → NotFirst n xs (filter p xs) → ElseKept n xs (filter p xs) → filter q xs ≡ drop n (filter p xs)
    filter_past zero [] d a b c = refl
    filter_past (suc n) [] d a b c = refl
    filter_past n (x ∷ xs) d a b c = one_more n x xs (p x) (q x) refl refl d.0 (a x (inl refl)) b c (λ m. filter_past m xs d.1 (λ y i. a y (inr i)))
