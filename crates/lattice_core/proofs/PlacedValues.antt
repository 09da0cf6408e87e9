-- What stands at a key after an entry is put in its place or taken out.
use Rattle.std.proofs.Common.{◌≡◌, Option, Some, None, List, [], ◌∷◌, if◌then◌else◌, refl, ap, sym, ◌∙◌}
use Rattle.std.specs.Map.{remove_entry}
use Rattle.std.specs.BTreeMap.{is_at, insert_entry}
use Rattle.std.specs.declared.cmp.Ordering.{Ordering}
use Rattle.std.specs.declared.cmp.Ordering.TheVariants.{Less, Equal, Greater}
use Rattle.std.specs.Ordering.{is_eq, ordering_reverse}
use Rattle.std.specs.Cmp.{IsTotalOrder}
use Rattle.std.proofs.lemmas.Cmp.{alike_right}
use Rattle.lattice_core.specs.Entries.{value_at, IsAscending}
use Rattle.lattice_core.specs.Lookups.{joined_onto}
use Rattle.lattice_core.specs.Placed.{map_with}
use Rattle.lattice_core.proofs.Lookups.{none_below, below_alike, value_put}
use Rattle.lattice_core.proofs.Trees.{later, put_is_over}

module _ {K V : Type 0} (cmp : K → K → Ordering) (o : IsTotalOrder cmp) (k : K) where
  -- of two values the later stays
  onto_later : (held : Option V) (v : V) → joined_onto later held v ≡ v
  onto_later None v = refl
  onto_later (Some w) v = refl

  -- an inserted value stands at its key, and other keys keep theirs
  value_inserted : (es : List (K × V)) (v : V) (q : K) → IsAscending cmp es → value_at cmp (insert_entry cmp es k v) q ≡ (if is_eq (cmp q k) then Some v else value_at cmp es q)
  value_inserted es v q h =
      ap (λ m. value_at cmp m q) (sym (put_is_over cmp k v es)) ∙ value_put cmp later o es k v q h ∙ ap (λ u. if is_eq (cmp q k) then Some u else value_at cmp es q) (onto_later (value_at cmp es k) v)

  -- one value either way
  either_way : (p : Ordering) (r : Option V) → (if is_eq p then r else r) ≡ r
  either_way Less r = refl
  either_way Equal r = refl
  either_way Greater r = refl

  -- by the places of both keys beside the first entry
  removed_at : (e : K × V) (es : List (K × V)) (q : K) (p r : Ordering) → cmp k e.0 ≡ p → cmp q e.0 ≡ r → IsAscending cmp (e ∷ es) → value_at cmp (remove_entry (is_at (cmp k)) es) q ≡ (if is_eq (cmp q k) then None else value_at cmp es q) → value_at cmp (remove_entry (is_at (cmp k)) (e ∷ es)) q ≡ (if is_eq (cmp q k) then None else value_at cmp (e ∷ es) q)
  removed_at e es q Equal Equal a b h i =
      let alike : cmp q k ≡ Equal = alike_right o k e.0 q a ∙ b in
      let none : value_at cmp es q ≡ None = none_below cmp later o q es (below_alike cmp later o e.0 q es b h.0) in
      simp (a, alike) none
  removed_at e es q Equal Less a b h i =
      let other : cmp q k ≡ Less = alike_right o k e.0 q a ∙ b in
      simp (a, b, other)
  removed_at e es q Equal Greater a b h i =
      let other : cmp q k ≡ Greater = alike_right o k e.0 q a ∙ b in
      simp (a, b, other)
  removed_at e es q Less Equal a b h i =
      let other : cmp q k ≡ Greater = o.congr q e.0 k b ∙ (o.antisymm e.0 k ∙ ap ordering_reverse a) in
      simp (a, b, other)
  removed_at e es q Less Less a b h i = simp (a, b) i
  removed_at e es q Less Greater a b h i = simp (a, b) i
  removed_at e es q Greater Equal a b h i =
      let other : cmp q k ≡ Less = o.congr q e.0 k b ∙ (o.antisymm e.0 k ∙ ap ordering_reverse a) in
      simp (a, b, other)
  removed_at e es q Greater Less a b h i = simp (a, b) i
  removed_at e es q Greater Greater a b h i = simp (a, b) i

  -- what was taken out stands no more, and other keys keep theirs
  value_removed : (es : List (K × V)) (q : K) → IsAscending cmp es → value_at cmp (remove_entry (is_at (cmp k)) es) q ≡ (if is_eq (cmp q k) then None else value_at cmp es q)
  value_removed [] q h = sym (either_way (cmp q k) None)
  value_removed (e ∷ es) q h = removed_at e es q (cmp k e.0) (cmp q e.0) refl refl h (value_removed es q h.1)

  -- what was put in its place stands there, and other keys keep theirs
  pub value_placed : (es : List (K × V)) (w : Option V) (q : K) → IsAscending cmp es → value_at cmp (map_with cmp es k w) q ≡ (if is_eq (cmp q k) then w else value_at cmp es q)
  value_placed es (Some v) q h = value_inserted es v q h
  value_placed es None q h = value_removed es q h
