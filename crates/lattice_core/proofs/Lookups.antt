-- What stands at a key after a put, after an entry is put in its place, and in the join of two maps.
use Rattle.std.proofs.Common.{◌≡◌, Option, Some, None, List, [], ◌∷◌, if◌then◌else◌, refl, ap, sym, ◌∙◌}
use Rattle.std.specs.declared.cmp.Ordering.{Ordering}
use Rattle.std.specs.declared.cmp.Ordering.TheVariants.{Less, Equal, Greater}
use Rattle.std.specs.Ordering.{is_eq, ordering_reverse}
use Rattle.std.specs.Cmp.{IsTotalOrder}
use Rattle.std.proofs.lemmas.Cmp.{alike_right}
use Rattle.lattice_core.specs.Entries.{value_at, IsBelow, IsAscending, put, put_all, map_joined}
use Rattle.lattice_core.specs.Lookups.{joined_onto, option_joined}
use Rattle.lattice_core.specs.laws.Maps.{below_all, rises}

-- nothing joined on changes nothing
joined_nothing : {V : Type 0} (join : V → V → V) (x : Option V) → option_joined join x None ≡ x
joined_nothing join None = refl
joined_nothing join (Some x) = refl

module _ {K V : Type 0} (cmp : K → K → Ordering) (join : V → V → V) (o : IsTotalOrder cmp) where
  -- a key below all others has no value
  pub none_below : (k : K) (es : List (K × V)) → IsBelow cmp k es → value_at cmp es k ≡ None
  none_below k [] h = refl
  none_below k (e ∷ es) h = simp (h.0) (none_below k es h.1)

  -- what is alike is below the same
  pub below_alike : (k q : K) (es : List (K × V)) → cmp q k ≡ Equal → IsBelow cmp k es → IsBelow cmp q es
  below_alike k q [] a h = tt
  below_alike k q (e ∷ es) a h = (o.congr q k e.0 a ∙ h.0, below_alike k q es a h.1)

  -- by the places of both keys beside the first entry
  put_past : (es : List (K × V)) (e : K × V) (k : K) (v : V) (q : K) (p r : Ordering) → cmp k e.0 ≡ p → cmp q e.0 ≡ r → IsAscending cmp (e ∷ es) → value_at cmp (put cmp join es k v) q ≡ (if is_eq (cmp q k) then Some (joined_onto join (value_at cmp es k) v) else value_at cmp es q) → value_at cmp (put cmp join (e ∷ es) k v) q ≡ (if is_eq (cmp q k) then Some (joined_onto join (value_at cmp (e ∷ es) k) v) else value_at cmp (e ∷ es) q)
  put_past es e k v q Less r a b h i = simp (a, none_below k es (below_all cmp join o k e.0 es a h.0))
  put_past es e k v q Equal Less a b h i = simp (a, b, alike_right o k e.0 q a)
  put_past es e k v q Equal Equal a b h i = simp (a, b, alike_right o k e.0 q a)
  put_past es e k v q Equal Greater a b h i = simp (a, b, alike_right o k e.0 q a)
  put_past es e k v q Greater Less a b h i = simp (a, b) i
  put_past es e k v q Greater Greater a b h i = simp (a, b) i
  put_past es e k v q Greater Equal a b h i =
      let less : cmp q k ≡ Less = o.congr q e.0 k b ∙ (o.antisymm e.0 k ∙ ap ordering_reverse a) in
      simp (a, b, less)

  -- the value put at a key is joined onto what stands there, and other keys keep theirs
  pub value_put : (es : List (K × V)) (k : K) (v : V) (q : K) → IsAscending cmp es → value_at cmp (put cmp join es k v) q ≡ (if is_eq (cmp q k) then Some (joined_onto join (value_at cmp es k) v) else value_at cmp es q)
  value_put [] k v q h = refl
  value_put (e ∷ es) k v q h = put_past es e k v q (cmp k e.0) (cmp q e.0) refl refl h (value_put es k v q h.1)

  -- the first entry's key is not among the keys of the rest
  none_alike : (e : K × V) (es : List (K × V)) (q : K) → cmp q e.0 ≡ Equal → IsAscending cmp (e ∷ es) → value_at cmp es q ≡ None
  none_alike e es q a h = none_below q es (below_alike e.0 q es a h.0)

  -- one entry more is put
  one_more : (e : K × V) (es : List (K × V)) (q : K) (p : Ordering) (held : Option V) → cmp q e.0 ≡ p → IsAscending cmp (e ∷ es) → option_joined join (if is_eq p then Some (joined_onto join held e.1) else held) (value_at cmp es q) ≡ option_joined join held (if is_eq p then Some e.1 else value_at cmp es q)
  one_more e es q Less held a h = refl
  one_more e es q Greater held a h = refl
  one_more e es q Equal None a h = ap (option_joined join (Some e.1)) (none_alike e es q a h)
  one_more e es q Equal (Some w) a h = ap (option_joined join (Some (join w e.1))) (none_alike e es q a h)

  -- keys that are alike have one value
  value_alike : (q k : K) (es : List (K × V)) → cmp q k ≡ Equal → value_at cmp es q ≡ value_at cmp es k
  value_alike q k [] a = refl
  value_alike q k (e ∷ es) a =
      let first = o.congr q k e.0 a in
      let rest = value_alike q k es a in
      simp (first, rest)

  -- a value joined in at an alike key is joined onto the same
  held_alike : (ms : List (K × V)) (k q : K) (v : V) (rest : Option V) (p : Ordering) → cmp q k ≡ p → (if is_eq p then Some (joined_onto join (value_at cmp ms k) v) else rest) ≡ (if is_eq p then Some (joined_onto join (value_at cmp ms q) v) else rest)
  held_alike ms k q v rest Less a = refl
  held_alike ms k q v rest Greater a = refl
  held_alike ms k q v rest Equal a = ap (λ w. Some (joined_onto join w v)) (sym (value_alike q k ms a))

  -- a look-up in what all entries were put into joins the look-ups in both
  pub value_put_all : (es ms : List (K × V)) (q : K) → IsAscending cmp ms → IsAscending cmp es → value_at cmp (put_all cmp join ms es) q ≡ option_joined join (value_at cmp ms q) (value_at cmp es q)
  value_put_all [] ms q h i = sym (joined_nothing join (value_at cmp ms q))
  value_put_all (e ∷ es) ms q h i =
      let after = value_put_all es (put cmp join ms e.0 e.1) q (rises cmp join o ms e.0 e.1 h) i.1 in
      let put_is = value_put ms e.0 e.1 q h ∙ held_alike ms e.0 q e.1 (value_at cmp ms q) (cmp q e.0) refl in
      after ∙ ap (λ w. option_joined join w (value_at cmp es q)) put_is ∙ one_more e es q (cmp q e.0) (value_at cmp ms q) refl i

  -- all entries put into the empty map rise
  all_rise : (es ms : List (K × V)) → IsAscending cmp ms → IsAscending cmp (put_all cmp join ms es)
  all_rise [] ms h = h
  all_rise (e ∷ es) ms h = all_rise es (put cmp join ms e.0 e.1) (rises cmp join o ms e.0 e.1 h)

  -- a look-up in the join of two maps is the join of both look-ups
  pub value_joined : (xs ys : List (K × V)) (q : K) → IsAscending cmp xs → IsAscending cmp ys → value_at cmp (map_joined cmp join xs ys) q ≡ option_joined join (value_at cmp xs q) (value_at cmp ys q)
  value_joined xs ys q h i =
      value_put_all ys (put_all cmp join [] xs) q (all_rise xs [] tt) i ∙ ap (λ w. option_joined join w (value_at cmp ys q)) (value_put_all xs [] q tt h)
