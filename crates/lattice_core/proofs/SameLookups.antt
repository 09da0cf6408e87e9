-- Two ascending maps with the same look-ups are the same map.
use Rattle.std.proofs.Common.{◌≡◌, Some, None, List, [], ◌∷◌, refl, ap, sym, subst, ◌∙◌}
use Rattle.std.specs.declared.cmp.Ordering.{Ordering}
use Rattle.std.specs.declared.cmp.Ordering.TheVariants.{Less, Equal, Greater}
use Rattle.std.specs.Ordering.{ordering_reverse}
use Rattle.std.specs.Option.{unwrap_or}
use Rattle.std.specs.Cmp.{IsTotalOrder}
use Rattle.std.proofs.lemmas.Cmp.{tied_itself}
use Rattle.pcrf_values.specs.Exact.{IsExact}
use Rattle.lattice_core.specs.laws.Maps.{below_all}
use Rattle.lattice_core.specs.Entries.{value_at, IsAscending}
use Rattle.lattice_core.proofs.Lookups.{none_below, below_alike}

module _ {K V : Type 0} (cmp : K → K → Ordering) (o : IsTotalOrder cmp) (s : IsExact cmp) where
  -- of two values the first
  keep : V → V → V
  keep x y = x

  -- the first entry answers for its key
  found_first : (e : K × V) (es : List (K × V)) → value_at cmp (e ∷ es) e.0 ≡ Some e.1
  found_first e es = let own : cmp e.0 e.0 ≡ Equal = tied_itself o e.0 in simp own

  -- a key below the first has no value
  absent_first : (k : K) (e : K × V) (es : List (K × V)) → cmp k e.0 ≡ Less → IsAscending cmp (e ∷ es) → value_at cmp (e ∷ es) k ≡ None
  absent_first k e es a h = none_below cmp keep o k (e ∷ es) (a, below_all cmp keep o k e.0 es a h.0)

  -- past one first key the look-ups are the same
  rest_at : (x y : K × V) (xs ys : List (K × V)) (k : K) (p : Ordering) → cmp k x.0 ≡ p → x.0 ≡ y.0 → IsAscending cmp (x ∷ xs) → IsAscending cmp (y ∷ ys) → value_at cmp (x ∷ xs) k ≡ value_at cmp (y ∷ ys) k → value_at cmp xs k ≡ value_at cmp ys k
  rest_at x y xs ys k Equal a e h i same =
      let other : cmp k y.0 ≡ Equal = subst (λ l. cmp k l ≡ Equal) e a in
      none_below cmp keep o k xs (below_alike cmp keep o x.0 k xs a h.0) ∙ sym (none_below cmp keep o k ys (below_alike cmp keep o y.0 k ys other i.0))
  rest_at x y xs ys k Less a e h i same =
      let other : cmp k y.0 ≡ Less = subst (λ l. cmp k l ≡ Less) e a in
      none_below cmp keep o k xs (below_all cmp keep o k x.0 xs a h.0) ∙ sym (none_below cmp keep o k ys (below_all cmp keep o k y.0 ys other i.0))
  rest_at x y xs ys k Greater a e h i same =
      let other : cmp k y.0 ≡ Greater = subst (λ l. cmp k l ≡ Greater) e a in
      let past : value_at cmp (x ∷ xs) k ≡ value_at cmp xs k = simp a in
      let past_other : value_at cmp (y ∷ ys) k ≡ value_at cmp ys k = simp other in
      sym past ∙ same ∙ past_other

  -- by the places of both first keys
  firsts_at : (x y : K × V) (xs ys : List (K × V)) (p : Ordering) → cmp x.0 y.0 ≡ p → IsAscending cmp (x ∷ xs) → IsAscending cmp (y ∷ ys) → ((k : K) → value_at cmp (x ∷ xs) k ≡ value_at cmp (y ∷ ys) k) → (((k : K) → value_at cmp xs k ≡ value_at cmp ys k) → xs ≡ ys) → x ∷ xs ≡ y ∷ ys
  firsts_at x y xs ys Less a h i same more =
      let held : Some x.1 ≡ None = sym (found_first x xs) ∙ same x.0 ∙ absent_first x.0 y ys a i in
      absurd (cc)
  firsts_at x y xs ys Greater a h i same more =
      let under : cmp y.0 x.0 ≡ Less = o.antisymm y.0 x.0 ∙ ap ordering_reverse a in
      let held : None ≡ Some y.1 = sym (absent_first y.0 x xs under h) ∙ same y.0 ∙ found_first y ys in
      absurd (cc)
  firsts_at x y xs ys Equal a h i same more =
      let key : x.0 ≡ y.0 = s x.0 y.0 a in
      let held : Some x.1 ≡ Some y.1 = sym (found_first x xs) ∙ same x.0 ∙ ap (value_at cmp (y ∷ ys)) key ∙ found_first y ys in
      let value : x.1 ≡ y.1 = ap (λ r. unwrap_or r x.1) held in
      let rest : xs ≡ ys = more (λ k. rest_at x y xs ys k (cmp k x.0) refl key h i (same k)) in
      λ j. (key j, value j) ∷ rest j

  -- two ascending maps with the same look-ups are the same
  pub same_lookups : (xs ys : List (K × V)) → IsAscending cmp xs → IsAscending cmp ys → ((k : K) → value_at cmp xs k ≡ value_at cmp ys k) → xs ≡ ys
  same_lookups [] [] h i same = refl
  same_lookups [] (y ∷ ys) h i same =
      let held : None ≡ Some y.1 = same y.0 ∙ found_first y ys in
      absurd (cc)
  same_lookups (x ∷ xs) [] h i same =
      let held : Some x.1 ≡ None = sym (found_first x xs) ∙ same x.0 in
      absurd (cc)
  same_lookups (x ∷ xs) (y ∷ ys) h i same = firsts_at x y xs ys (cmp x.0 y.0) refl h i same (same_lookups xs ys h.1 i.1)
