-- The merge of kept lists, fact by fact, is what is kept of both.
use Rattle.std.proofs.Common.{◌≡◌, false, true, List, [], ◌∷◌, ◌++◌, map, ◌⊎◌, inl, inr, refl, sym, ap, ◌∙◌, subst, append_assoc, append-nil, length, drop, arith, Option, Some, None, MatchOption, Bor, Ordering, Less, Equal, Greater}
use Rattle.std.specs.Ordering.{is_lt, ordering_reverse}
use Rattle.std.specs.Option.{option_to_list, option_copied}
use Rattle.pcrf_values.specs.Ascending.{Rises}
use Rattle.pcrf_values.specs.Sets.{In, Same}
use Rattle.pcrf_values.proofs.Plain.{clash, is_false, lt_less}
use Rattle.pcrf_values.proofs.SetLaws.{In-left, In-right, In-cases, Same-itself, Same-append, Same-turn, Same-through}
use Rattle.pcrf_values.specs.Facts.{Fact, fact_cmp}
use Rattle.pcrf_values.specs.Held.{kept_set, kept_list, join_of}
use Rattle.pcrf_values.proofs.FactLaws.{fact_ranked}
use Rattle.pcrf_values.proofs.JoinedLaws.{kept-In, sorted-In, held-Same, joined-held, held_twice}
use Rattle.lattice_core.specs.Orders.{NoneBelow, Climbs, Follow, IsLeast, first_is_theirs}
use Rattle.lattice_core.proofs.KeepLaws.{kept_rises}

-- ---- orders

-- not below goes through
pub not_below_through : (x y z : Fact) → is_lt (fact_cmp y x) ≡ false → is_lt (fact_cmp z y) ≡ false → is_lt (fact_cmp z x) ≡ false
not_below_through x y z h k = is_false (is_lt (fact_cmp z x)) (λ t. by (lt_less (fact_cmp z x) t) (fact_cmp x y) refl)
  where
    by : fact_cmp z x ≡ Less → (o : Ordering) → fact_cmp x y ≡ o → ⊥
    by l Less e = clash (is_lt (fact_cmp z y)) (ap is_lt (fact_ranked.total.trans z x y l e)) k
    by l Equal e = clash (is_lt (fact_cmp z y)) (subst (λ (w : Fact). is_lt (fact_cmp z w) ≡ true) (fact_ranked.same x y e) (ap is_lt l)) k
    by l Greater e = clash (is_lt (fact_cmp y x)) (ap is_lt (fact_ranked.total.antisymm y x ∙ ap ordering_reverse e)) h

-- below is not above
below_not : (x y : Fact) → fact_cmp x y ≡ Less → is_lt (fact_cmp y x) ≡ false
below_not x y h = ap is_lt (fact_ranked.total.antisymm y x ∙ ap ordering_reverse h)

-- what rises climbs
pub rises_climbs : (xs : List Fact) → Rises fact_cmp xs → Climbs xs
rises_climbs [] r = tt
rises_climbs (x ∷ xs) r = (λ y i. below_not x y (r.0 y i), rises_climbs xs r.1)

-- so what is kept climbs
pub kept_climbs : (xs : List Fact) → kept_list xs ≡ xs → Climbs xs
kept_climbs xs k = rises_climbs xs (kept_rises xs k)

-- ---- the least of two lists that climb

-- where it is the second's
pub least_theirs : (xs ys : List Fact) (y : Fact) → Climbs xs → Climbs (y ∷ ys) → first_is_theirs xs (y ∷ ys) ≡ true → IsLeast y (xs ++ ys) (xs ++ y ∷ ys)
least_theirs xs ys y cx cy h = record { same = same; least = λ z i. low z (In-cases z xs ys i) }
  where
    head : (x : Fact) (xs : List Fact) → Climbs (x ∷ xs) → is_lt (fact_cmp y x) ≡ true → NoneBelow y (x ∷ xs)
    head x xs c t z (inl e) = ap (λ (w : Fact). is_lt (fact_cmp w y)) e ∙ below_not y x (lt_less (fact_cmp y x) t)
    head x xs c t z (inr i) = not_below_through y x z (below_not y x (lt_less (fact_cmp y x) t)) (c.0 z i)

    all : (xs : List Fact) → Climbs xs → first_is_theirs xs (y ∷ ys) ≡ true → NoneBelow y xs
    all [] c t z i = absurd i
    all (x ∷ xs) c t z i = head x xs c t z i

    low : (z : Fact) → In z xs ⊎ In z ys → is_lt (fact_cmp z y) ≡ false
    low z (inl i) = all xs cx h z i
    low z (inr i) = cy.0 z i

    same : Same (y ∷ (xs ++ ys)) (xs ++ y ∷ ys)
    same =
        let turned = Same-append ((y ∷ []) ++ xs) ys (xs ++ (y ∷ [])) ys (Same-turn (y ∷ []) xs) (Same-itself ys) in
        subst (λ (l : List Fact). Same (y ∷ (xs ++ ys)) l) (append_assoc xs (y ∷ []) ys) turned

-- where it is the first's
pub least_ours : (x : Fact) (xs ys : List Fact) → Climbs (x ∷ xs) → Climbs ys → first_is_theirs (x ∷ xs) ys ≡ false → IsLeast x (xs ++ ys) (x ∷ xs ++ ys)
least_ours x xs ys cx cy h = record { same = Same-itself (x ∷ (xs ++ ys)); least = λ z i. low z (In-cases z xs ys i) }
  where
    all : (ys : List Fact) → Climbs ys → first_is_theirs (x ∷ xs) ys ≡ false → NoneBelow x ys
    all [] c t z i = absurd i
    all (y ∷ ys) c t z (inl e) = ap (λ (w : Fact). is_lt (fact_cmp w x)) e ∙ t
    all (y ∷ ys) c t z (inr i) = not_below_through x y z t (c.0 z i)

    low : (z : Fact) → In z xs ⊎ In z ys → is_lt (fact_cmp z x) ≡ false
    low z (inl i) = cx.0 z i
    low z (inr i) = all ys cy h z i

-- ---- one step of a merge

-- what is kept of a list and one fact is of these
join-In : (ks : List Fact) (f x : Fact) → In x (join_of ks (f ∷ [])) → In x ks ⊎ (x ≡ f)
join-In ks f x i = by (In-cases x ks (f ∷ []) (kept-In x (ks ++ f ∷ []) ((sorted-In (kept_set (ks ++ f ∷ [])) x).0 i)).0)
  where
    by : In x ks ⊎ In x (f ∷ []) → In x ks ⊎ (x ≡ f)
    by (inl j) = inl j
    by (inr (inl e)) = inr e
    by (inr (inr j)) = absurd j

-- with the least of what is left
pub step_joins : (ks were left : List Fact) (f : Fact) → IsLeast f left were → join_of ks were ≡ join_of (join_of ks (f ∷ [])) left
step_joins ks were left f l =
    sym (held-Same (ks ++ f ∷ left) (ks ++ were) (Same-append ks (f ∷ left) ks were (Same-itself ks) l.same))
    ∙ ap kept_list (sym (append_assoc ks (f ∷ []) left))
    ∙ sym (joined-held (ks ++ f ∷ []) left)

-- the rest follows what is kept with it
pub step_follows : (ks were left : List Fact) (f : Fact) → IsLeast f left were → Follow ks were → Follow (join_of ks (f ∷ [])) left
step_follows ks were left f l h g i z j = by (join-In ks f g i)
  where
    by : In g ks ⊎ (g ≡ f) → is_lt (fact_cmp z g) ≡ false
    by (inl k) = h g k z ((l.same z).0 (inr j))
    by (inr e) = ap (λ (w : Fact). is_lt (fact_cmp z w)) e ∙ l.least z j

-- the least follows what is kept
pub step_above : (ks were left : List Fact) (f : Fact) → IsLeast f left were → Follow ks were → (g : Fact) → In g ks → is_lt (fact_cmp f g) ≡ false
step_above ks were left f l h g i = h g i f ((l.same f).0 (inl refl))

-- with nothing left
pub join_none : (ks : List Fact) → kept_list ks ≡ ks → join_of ks [] ≡ ks
join_none ks k = ap kept_list (append-nil ks) ∙ k

-- ---- the same of typed facts

-- a list that is its own rest is empty
own_rest : {A : Type 0} (xs : List A) → xs ≡ drop 1 xs → xs ≡ []
own_rest [] e = refl
own_rest (x ∷ xs) e = let long = ap length e in absurd (omega arith)

module _ {A : Type 0} (fact : A → Fact) where
  -- the first of theirs
  pub took_theirs : (os ts us : List A) (r : Option A) → Climbs (map fact os) → Climbs (map fact ts) → first_is_theirs (map fact os) (map fact ts) ≡ true
      → ts ≡ option_to_list r ++ us → us ≡ drop 1 ts
      → MatchOption r (map fact os ++ map fact ts ≡ []) (λ f. IsLeast (fact f) (map fact os ++ map fact us) (map fact os ++ map fact ts))
  took_theirs os ts us None co ct h e d = empty os (subst (λ (z : List A). first_is_theirs (map fact os) (map fact z) ≡ true) none h) ∙ ap (map fact) none
    where
      none : ts ≡ []
      none = own_rest ts (e ∙ d)

      empty : (os : List A) → first_is_theirs (map fact os) [] ≡ true → map fact os ++ map fact ts ≡ map fact ts
      empty [] h = refl
      empty (o ∷ os) h = clash false h refl
  took_theirs os ts us (Some f) co ct h e d =
      subst (λ (z : List A). IsLeast (fact f) (map fact os ++ map fact us) (map fact os ++ map fact z)) (sym e)
      (least_theirs (map fact os) (map fact us) (fact f) co
      (subst (λ (z : List A). Climbs (map fact z)) e ct)
      (subst (λ (z : List A). first_is_theirs (map fact os) (map fact z) ≡ true) e h))

  -- the first of ours
  pub took_ours : (os ts us : List A) (r : Option A) → Climbs (map fact os) → Climbs (map fact ts) → first_is_theirs (map fact os) (map fact ts) ≡ false
      → os ≡ option_to_list r ++ us → us ≡ drop 1 os
      → MatchOption r (map fact os ++ map fact ts ≡ []) (λ f. IsLeast (fact f) (map fact us ++ map fact ts) (map fact os ++ map fact ts))
  took_ours os ts us None co ct h e d = clash (first_is_theirs (map fact os) (map fact ts)) (ap (λ (z : List A). first_is_theirs (map fact z) (map fact ts)) (own_rest os (e ∙ d))) h
  took_ours os ts us (Some f) co ct h e d =
      subst (λ (z : List A). IsLeast (fact f) (map fact us ++ map fact ts) (map fact z ++ map fact ts)) (sym e)
      (least_ours (fact f) (map fact us) (map fact ts)
      (subst (λ (z : List A). Climbs (map fact z)) e co) ct
      (subst (λ (z : List A). first_is_theirs (map fact z) (map fact ts) ≡ false) e h))

-- ---- of facts where they are

-- what is known of the fact
pub match_copied : {A : Type 0} (r : Option (Bor A)) (P : Type 0) (Q : A → Type 0) → MatchOption (option_copied r) P Q → MatchOption r P (λ f. Q f.now)
match_copied None P Q h = h
match_copied (Some f) P Q h = h

-- the facts that are there
pub made_there : {A : Type 0} (fact : A → Fact) (xs : List (Bor A)) → map fact (map (λ f. f.now) xs) ≡ map (λ f. fact f.now) xs
made_there fact [] = refl
made_there fact (x ∷ xs) = ap (λ (l : List Fact). fact x.now ∷ l) (made_there fact xs)
