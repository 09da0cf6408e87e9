-- The laws of the join of maps.
use Rattle.std.specs.Prelude.{◌≡◌, List, [], ◌∷◌, refl}
use Rattle.std.specs.declared.cmp.Ordering.{Ordering}
use Rattle.std.specs.declared.cmp.Ordering.TheVariants.{Less, Equal, Greater}
use Rattle.std.specs.Ordering.{ordering_reverse}
use Rattle.std.specs.Cmp.{IsTotalOrder}
use Rattle.std.proofs.Common.{ap, sym, ◌∙◌}
use Rattle.std.proofs.lemmas.Cmp.{tied_itself, alike_right}
use Rattle.pcrf_values.specs.Exact.{IsExact}
use Rattle.lattice_core.specs.Entries.{IsBelow, IsAscending, AllValues, put, put_all, map_joined}

module _ {K V : Type 0} (cmp : K → K → Ordering) (join : V → V → V) (o : IsTotalOrder cmp) (s : IsExact cmp) where
  module _ (comm : (x y : V) → join x y ≡ join y x) (assoc : (x y z : V) → join (join x y) z ≡ join x (join y z)) where
    -- two joined onto a third, in either order
    three : (x y z : V) → join (join x y) z ≡ join (join x z) y
    three x y z = assoc x y z ∙ ap (join x) (comm y z) ∙ sym (assoc x z y)

    -- two puts into the empty map
    swap_in_empty : (k : K) (v : V) (l : K) (w : V) (p q : Ordering) → cmp k l ≡ p → cmp l k ≡ q → p ≡ ordering_reverse q → put cmp join ((l, w) ∷ []) k v ≡ put cmp join ((k, v) ∷ []) l w
    swap_in_empty k v l w Less Greater e f r = simp (e, f)
    swap_in_empty k v l w Greater Less e f r = simp (e, f)
    swap_in_empty k v l w Equal Equal e f r =
        let same : k ≡ l = s k l e in
        let both : join w v ≡ join v w = comm w v in
        simp (e, f) (cc)
    swap_in_empty k v l w Less Less e f r = absurd (cc)
    swap_in_empty k v l w Less Equal e f r = absurd (cc)
    swap_in_empty k v l w Equal Less e f r = absurd (cc)
    swap_in_empty k v l w Equal Greater e f r = absurd (cc)
    swap_in_empty k v l w Greater Equal e f r = absurd (cc)
    swap_in_empty k v l w Greater Greater e f r = absurd (cc)

    -- two puts in front of the first entry
    swap_in_front : (es : List (K × V)) (e : K × V) (k : K) (v : V) (l : K) (w : V) (p q : Ordering) → cmp k e.0 ≡ Less → cmp l e.0 ≡ Less → cmp k l ≡ p → cmp l k ≡ q → p ≡ ordering_reverse q → put cmp join ((l, w) ∷ e ∷ es) k v ≡ put cmp join ((k, v) ∷ e ∷ es) l w
    swap_in_front es n k v l w Less Greater a b e f r = simp (e, f, a, b)
    swap_in_front es n k v l w Greater Less a b e f r = simp (e, f, a, b)
    swap_in_front es n k v l w Equal Equal a b e f r =
        let same : k ≡ l = s k l e in
        let both : join w v ≡ join v w = comm w v in
        simp (e, f) (cc)
    swap_in_front es n k v l w Less Less a b e f r = absurd (cc)
    swap_in_front es n k v l w Less Equal a b e f r = absurd (cc)
    swap_in_front es n k v l w Equal Less a b e f r = absurd (cc)
    swap_in_front es n k v l w Equal Greater a b e f r = absurd (cc)
    swap_in_front es n k v l w Greater Equal a b e f r = absurd (cc)
    swap_in_front es n k v l w Greater Greater a b e f r = absurd (cc)

    -- a key below another is passed by it
    passes : (k l : K) → cmp k l ≡ Less → cmp l k ≡ Greater
    passes k l e = o.antisymm l k ∙ ap ordering_reverse e

    -- a key above another is passed by it the other way
    passed : (k l : K) → cmp k l ≡ Greater → cmp l k ≡ Less
    passed k l e = o.antisymm l k ∙ ap ordering_reverse e

    -- by the places of both keys beside the first entry
    swap_past : (es : List (K × V)) (e : K × V) (k : K) (v : V) (l : K) (w : V) (p q : Ordering) → cmp k e.0 ≡ p → cmp l e.0 ≡ q → put cmp join (put cmp join es l w) k v ≡ put cmp join (put cmp join es k v) l w → put cmp join (put cmp join (e ∷ es) l w) k v ≡ put cmp join (put cmp join (e ∷ es) k v) l w
    swap_past es n k v l w Less Less a b h =
        let before : put cmp join (n ∷ es) l w ≡ (l, w) ∷ n ∷ es = simp b in
        let after : put cmp join (n ∷ es) k v ≡ (k, v) ∷ n ∷ es = simp a in
        ap (λ m. put cmp join m k v) before ∙ swap_in_front es n k v l w (cmp k l) (cmp l k) a b refl refl (o.antisymm k l) ∙ sym (ap (λ m. put cmp join m l w) after)
    swap_past es n k v l w Less Equal a b h =
        let past : cmp l k ≡ Greater = passes k l (alike_right o l n.0 k b ∙ a) in
        simp (a, b, past)
    swap_past es n k v l w Less Greater a b h =
        let past : cmp l k ≡ Greater = passes k l (o.trans k n.0 l a (passed l n.0 b)) in
        simp (a, b, past)
    swap_past es n k v l w Equal Less a b h =
        let past : cmp k l ≡ Greater = passes l k (alike_right o k n.0 l a ∙ b) in
        simp (a, b, past)
    swap_past es n k v l w Equal Equal a b h = simp (a, b) (ap (λ u. (n.0, u) ∷ es) (three n.1 w v))
    swap_past es n k v l w Equal Greater a b h = simp (a, b)
    swap_past es n k v l w Greater Less a b h =
        let past : cmp k l ≡ Greater = passes l k (o.trans l n.0 k b (passed k n.0 a)) in
        simp (a, b, past)
    swap_past es n k v l w Greater Equal a b h = simp (a, b)
    swap_past es n k v l w Greater Greater a b h = simp (a, b) (ap (λ u. n ∷ u) h)

    -- two puts at two keys, in either order
    pub put_swap : (es : List (K × V)) (k : K) (v : V) (l : K) (w : V) → put cmp join (put cmp join es l w) k v ≡ put cmp join (put cmp join es k v) l w
    put_swap [] k v l w = swap_in_empty k v l w (cmp k l) (cmp l k) refl refl (o.antisymm k l)
    put_swap (e ∷ es) k v l w = swap_past es e k v l w (cmp k e.0) (cmp l e.0) refl refl (put_swap es k v l w)

    -- by the place of the key beside the first entry
    put_twice_past : (es : List (K × V)) (e : K × V) (k : K) (w v : V) (p : Ordering) → cmp k e.0 ≡ p → put cmp join (put cmp join es k w) k v ≡ put cmp join es k (join w v) → put cmp join (put cmp join (e ∷ es) k w) k v ≡ put cmp join (e ∷ es) k (join w v)
    put_twice_past es n k w v Less a h = let own : cmp k k ≡ Equal = tied_itself o k in simp (a, own)
    put_twice_past es n k w v Equal a h = simp a (ap (λ u. (n.0, u) ∷ es) (assoc n.1 w v))
    put_twice_past es n k w v Greater a h = simp a (ap (λ u. n ∷ u) h)

    -- two puts at one key are the put of the join
    pub put_twice : (es : List (K × V)) (k : K) (w v : V) → put cmp join (put cmp join es k w) k v ≡ put cmp join es k (join w v)
    put_twice [] k w v = let own : cmp k k ≡ Equal = tied_itself o k in simp own
    put_twice (e ∷ es) k w v = put_twice_past es e k w v (cmp k e.0) refl (put_twice es k w v)

    -- a put before many is the put after them
    pub put_all_put : (es ms : List (K × V)) (k : K) (v : V) → put_all cmp join (put cmp join ms k v) es ≡ put cmp join (put_all cmp join ms es) k v
    put_all_put [] ms k v = refl
    put_all_put (e ∷ es) ms k v = ap (λ m. put_all cmp join m es) (put_swap ms e.0 e.1 k v) ∙ put_all_put es (put cmp join ms e.0 e.1) k v

    -- many puts in either order
    put_all_swap : (xs ys ms : List (K × V)) → put_all cmp join (put_all cmp join ms xs) ys ≡ put_all cmp join (put_all cmp join ms ys) xs
    put_all_swap [] ys ms = refl
    put_all_swap (x ∷ xs) ys ms = put_all_swap xs ys (put cmp join ms x.0 x.1) ∙ ap (λ m. put_all cmp join m xs) (put_all_put ys ms x.0 x.1)

    -- the join of maps is commutative
    pub map_comm : (xs ys : List (K × V)) → map_joined cmp join xs ys ≡ map_joined cmp join ys xs
    map_comm xs ys = put_all_swap xs ys []

    -- by the place of the key beside the first entry
    put_into_past : (es : List (K × V)) (e : K × V) (ms : List (K × V)) (k : K) (v : V) (p : Ordering) → cmp k e.0 ≡ p → put_all cmp join (put cmp join ms e.0 e.1) (put cmp join es k v) ≡ put cmp join (put_all cmp join (put cmp join ms e.0 e.1) es) k v → put_all cmp join ms (put cmp join (e ∷ es) k v) ≡ put cmp join (put_all cmp join ms (e ∷ es)) k v
    put_into_past es n ms k v Less a h = simp a (put_all_put (n ∷ es) ms k v)
    put_into_past es n ms k v Equal a h =
        let same : k ≡ n.0 = s k n.0 a in
        let once : put_all cmp join (put cmp join ms n.0 (join n.1 v)) es ≡ put cmp join (put_all cmp join (put cmp join ms n.0 n.1) es) n.0 v = ap (λ m. put_all cmp join m es) (sym (put_twice ms n.0 n.1 v)) ∙ put_all_put es (put cmp join ms n.0 n.1) n.0 v in
        simp a (once ∙ ap (λ j. put cmp join (put_all cmp join (put cmp join ms n.0 n.1) es) j v) (sym same))
    put_into_past es n ms k v Greater a h = simp a h

    -- a put into the entries that are put
    put_all_into : (es ms : List (K × V)) (k : K) (v : V) → put_all cmp join ms (put cmp join es k v) ≡ put cmp join (put_all cmp join ms es) k v
    put_all_into [] ms k v = refl
    put_all_into (e ∷ es) ms k v = put_into_past es e ms k v (cmp k e.0) refl (put_all_into es (put cmp join ms e.0 e.1) k v)

    -- a map that was put together is put as its parts
    put_all_parts : (xs cs ms : List (K × V)) → put_all cmp join ms (put_all cmp join cs xs) ≡ put_all cmp join (put_all cmp join ms cs) xs
    put_all_parts [] cs ms = refl
    put_all_parts (x ∷ xs) cs ms = put_all_parts xs (put cmp join cs x.0 x.1) ms ∙ ap (λ m. put_all cmp join m xs) (put_all_into cs ms x.0 x.1)

    -- the join of maps is associative
    pub map_assoc : (xs ys zs : List (K × V)) → map_joined cmp join (map_joined cmp join xs ys) zs ≡ map_joined cmp join xs (map_joined cmp join ys zs)
    map_assoc xs ys zs =
        let left : put_all cmp join [] (map_joined cmp join xs ys) ≡ map_joined cmp join xs ys = put_all_parts ys (put_all cmp join [] xs) [] ∙ ap (λ m. put_all cmp join m ys) (put_all_parts xs [] []) in
        let right : put_all cmp join (put_all cmp join [] xs) (map_joined cmp join ys zs) ≡ put_all cmp join (map_joined cmp join xs ys) zs = put_all_parts zs (put_all cmp join [] ys) (put_all cmp join [] xs) ∙ ap (λ m. put_all cmp join m zs) (put_all_parts ys [] (put_all cmp join [] xs)) in
        ap (λ m. put_all cmp join m zs) left ∙ sym right

    -- entries put a second time change nothing
    once_more : (valid : V → Type 0) (idem : (x : V) → valid x → join x x ≡ x) (es : List (K × V)) → AllValues valid es → map_joined cmp join es es ≡ put_all cmp join [] es
    once_more valid idem [] h = refl
    once_more valid idem (e ∷ es) h =
        let rest = put_all cmp join [] es in
        let first : put_all cmp join [] (e ∷ es) ≡ put cmp join rest e.0 e.1 = put_all_put es [] e.0 e.1 in
        let twice : put cmp join (put cmp join rest e.0 e.1) e.0 e.1 ≡ put cmp join rest e.0 e.1 = put_twice rest e.0 e.1 e.1 ∙ ap (put cmp join rest e.0) (idem e.1 h.0) in
        let again : put_all cmp join (put cmp join rest e.0 e.1) es ≡ put cmp join rest e.0 e.1 = put_all_put es rest e.0 e.1 ∙ ap (λ m. put cmp join m e.0 e.1) (once_more valid idem es h.1) in
        ap (λ m. put_all cmp join (put cmp join m e.0 e.1) es) first ∙ ap (λ m. put_all cmp join m es) twice ∙ again ∙ sym first

    -- what is below all goes in front
    front : (e : K × V) (es : List (K × V)) → IsBelow cmp e.0 es → put cmp join es e.0 e.1 ≡ e ∷ es
    front e [] h = refl
    front e (n ∷ es) h = simp (h.0)

    -- a map whose keys rise is what its entries make
    pub put_all_itself : (es : List (K × V)) → IsAscending cmp es → put_all cmp join [] es ≡ es
    put_all_itself [] h = refl
    put_all_itself (e ∷ es) h = put_all_put es [] e.0 e.1 ∙ ap (λ m. put cmp join m e.0 e.1) (put_all_itself es h.1) ∙ front e es h.0

    -- the join with a map of one entry puts that entry
    pub joined_single : (es : List (K × V)) (k : K) (v : V) → IsAscending cmp es → map_joined cmp join es ((k, v) ∷ []) ≡ put cmp join es k v
    joined_single es k v h = ap (λ m. put cmp join m k v) (put_all_itself es h)

    -- the join of a map with itself is that map
    pub map_idem : (valid : V → Type 0) (idem : (x : V) → valid x → join x x ≡ x) (es : List (K × V)) → IsAscending cmp es × AllValues valid es → map_joined cmp join es es ≡ es
    map_idem valid idem es h = once_more valid idem es h.1 ∙ put_all_itself es h.0

module _ {K V : Type 0} (cmp : K → K → Ordering) (join : V → V → V) (o : IsTotalOrder cmp) where
  -- by the place of the key beside the first entry
  below_past : (j : K) (es : List (K × V)) (e : K × V) (k : K) (v : V) (p : Ordering) → cmp k e.0 ≡ p → cmp j k ≡ Less → IsBelow cmp j (e ∷ es) → IsBelow cmp j (put cmp join es k v) → IsBelow cmp j (put cmp join (e ∷ es) k v)
  below_past j es n k v Less a b h i = simp a (b, h)
  below_past j es n k v Equal a b h i = simp a (h.0, h.1)
  below_past j es n k v Greater a b h i = simp a (h.0, i)

  -- what is below all stays so after a put above it
  below_put : (j : K) (es : List (K × V)) (k : K) (v : V) → cmp j k ≡ Less → IsBelow cmp j es → IsBelow cmp j (put cmp join es k v)
  below_put j [] k v b h = (b, tt)
  below_put j (e ∷ es) k v b h = below_past j es e k v (cmp k e.0) refl b h (below_put j es k v b h.1)

  -- what is below a key is below all that it is below
  pub below_all : (j k : K) (es : List (K × V)) → cmp j k ≡ Less → IsBelow cmp k es → IsBelow cmp j es
  below_all j k [] b h = tt
  below_all j k (e ∷ es) b h = (o.trans j k e.0 b h.0, below_all j k es b h.1)

  -- by the place of the key beside the first entry
  rises_past : (es : List (K × V)) (e : K × V) (k : K) (v : V) (p : Ordering) → cmp k e.0 ≡ p → IsAscending cmp (e ∷ es) → IsAscending cmp (put cmp join es k v) → IsAscending cmp (put cmp join (e ∷ es) k v)
  rises_past es n k v Less a h i = simp a ((refl, below_all k n.0 es a h.0), h)
  rises_past es n k v Equal a h i = simp a (h.0, h.1)
  rises_past es n k v Greater a h i = simp a (below_put n.0 es k v (o.antisymm n.0 k ∙ ap ordering_reverse a) h.0, i)

  -- keys rise after a put
  pub rises : (es : List (K × V)) (k : K) (v : V) → IsAscending cmp es → IsAscending cmp (put cmp join es k v)
  rises [] k v h = (tt, tt)
  rises (e ∷ es) k v h = rises_past es e k v (cmp k e.0) refl h (rises es k v h.1)

  module _ (valid : V → Type 0) (closed : (x y : V) → valid x → valid y → valid (join x y)) where
    -- by the place of the key beside the first entry
    valid_past : (es : List (K × V)) (e : K × V) (k : K) (v : V) (p : Ordering) → cmp k e.0 ≡ p → valid v → AllValues valid (e ∷ es) → AllValues valid (put cmp join es k v) → AllValues valid (put cmp join (e ∷ es) k v)
    valid_past es n k v Less a b h i = simp a (b, h)
    valid_past es n k v Equal a b h i = simp a (closed n.1 v h.0 b, h.1)
    valid_past es n k v Greater a b h i = simp a (h.0, i)

    -- values are valid after a put
    pub all_valid : (es : List (K × V)) (k : K) (v : V) → valid v → AllValues valid es → AllValues valid (put cmp join es k v)
    all_valid [] k v b h = (b, tt)
    all_valid (e ∷ es) k v b h = valid_past es e k v (cmp k e.0) refl b h (all_valid es k v b h.1)

    -- keys rise and values are valid after many puts
    pub put_all_valid : (es ms : List (K × V)) → IsAscending cmp ms × AllValues valid ms → AllValues valid es → IsAscending cmp (put_all cmp join ms es) × AllValues valid (put_all cmp join ms es)
    put_all_valid [] ms h i = h
    put_all_valid (e ∷ es) ms h i = put_all_valid es (put cmp join ms e.0 e.1) (rises ms e.0 e.1 h.0, all_valid ms e.0 e.1 i.0 h.1) i.1

    -- the join of two maps is a map
    pub map_closed : (xs ys : List (K × V)) → IsAscending cmp xs × AllValues valid xs → IsAscending cmp ys × AllValues valid ys → IsAscending cmp (map_joined cmp join xs ys) × AllValues valid (map_joined cmp join xs ys)
    map_closed xs ys h i = put_all_valid ys (put_all cmp join [] xs) (put_all_valid xs [] (tt, tt) h.1) i.1
