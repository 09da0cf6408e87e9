-- What is kept when one fact more comes, which is below none before it.
use Rattle.std.proofs.Common.{◌≡◌, ℕ, Bool, true, false, List, [], ◌∷◌, ◌++◌, map, ◌⊎◌, Option, Some, None, inl, inr, refl, sym, ap, ◌∙◌, subst, append_assoc, Ordering, Less, Equal, Greater}
use Rattle.std.proofs.lemmas.List.{map-append}
use Rattle.std.specs.Ordering.{is_eq, is_lt, ordering_reverse, ordering_then}
use Rattle.std.specs.Option.{option_cmp}
use Rattle.std.specs.List.{list_any}
use Rattle.std.specs.Cmp.{tied_itself, Equal-is, first_so}
use Rattle.pcrf_values.specs.declared.tag.Tag.{Tag}
use Rattle.pcrf_values.specs.Ascending.{ascending, IsBelowAll, Rises}
use Rattle.pcrf_values.specs.Sets.{In, Same}
use Rattle.pcrf_values.proofs.Plain.{clash, is_false, both, lt_less}
use Rattle.pcrf_values.proofs.SetLaws.{In-left, In-right, In-cases, any-In, none-any, map-In, In-map, Same-itself, Same-back, Same-through, Same-append, Same-turn}
use Rattle.pcrf_values.proofs.AscendingLaws.{ascending-ascending, ascending-itself}
use Rattle.pcrf_values.specs.Places.{Place, OfSession, OfComponent, OfFlow, OfRuleName, Removable, Component, Flow, Position, position_cmp, contains, covers}
use Rattle.pcrf_values.specs.Values.{Value, entry_cmp}
use Rattle.pcrf_values.specs.Facts.{Fact, End, Removed, Field, Aborted, position, entry, fact_cmp, is_shaded_by}
use Rattle.pcrf_values.specs.Held.{kept_set, kept_list, join_of}
use Rattle.pcrf_values.proofs.FactLaws.{fact_ranked, position_ranked, shaded_irr, shaded_trans}
use Rattle.pcrf_values.proofs.JoinedLaws.{kept-In, In-kept, sorted-In, sorted-Same, held-Same, joined-held}
use Rattle.lattice_core.specs.Beneath.{beneath_of, removes, stands_at}
use Rattle.lattice_core.specs.Orders.{last_at, last_before, AtOrUnder, IsCovered}
use Rattle.lattice_core.proofs.BeneathLaws.{shades_beneath}

-- ---- lists that are kept

-- what rises, and of which none overshadows another, is all kept
pub kept_when : (zs : List Fact) → Rises fact_cmp zs → ((x y : Fact) → In x zs → In y zs → is_shaded_by x y ≡ false) → kept_list zs ≡ zs
kept_when zs r free =
    sorted-Same (kept_set zs) zs (λ x. (λ h. (kept-In x zs h).0, λ i. In-kept x zs i (λ y j. free x y i j)))
    ∙ ascending-itself fact_cmp fact_ranked zs r

-- what is kept rises
pub kept_rises : (zs : List Fact) → kept_list zs ≡ zs → Rises fact_cmp zs
kept_rises zs k = subst (λ (l : List Fact). Rises fact_cmp l) k (ascending-ascending fact_cmp fact_ranked (kept_set zs))

-- and none of it overshadows another
pub kept_free : (zs : List Fact) → kept_list zs ≡ zs → (x y : Fact) → In x zs → In y zs → is_shaded_by x y ≡ false
kept_free zs k x y i j =
    let there : In x (ascending fact_cmp (kept_set zs)) = subst (λ (l : List Fact). In x l) (sym k) i in
    (kept-In x zs ((sorted-In (kept_set zs) x).0 there)).1 y j

-- what overshadows the lower overshadows both
shaded_through : (x f g : Fact) → is_shaded_by x f ≡ true → AtOrUnder f g → is_shaded_by x g ≡ true
shaded_through x f g s (inl e) = subst (λ (z : Fact). is_shaded_by x z ≡ true) e s
shaded_through x f g s (inr t) = shaded_trans x f g s t

-- a fact that is there, or is overshadowed, adds nothing
pub held_drop : (f g : Fact) (zs : List Fact) → In g zs → AtOrUnder f g → kept_list (zs ++ f ∷ []) ≡ kept_list zs
held_drop f g zs i u = sorted-Same (kept_set (zs ++ f ∷ [])) (kept_set zs) (λ x. (there x, back x))
  where
    of_last : (x : Fact) → ((y : Fact) → In y (zs ++ f ∷ []) → is_shaded_by x y ≡ false) → x ≡ f → AtOrUnder f g → In x zs
    of_last x none e (inl q) = subst (λ (z : Fact). In z zs) (sym (e ∙ q)) i
    of_last x none e (inr s) = clash (is_shaded_by x g) (subst (λ (z : Fact). is_shaded_by z g ≡ true) (sym e) s) (none g (In-left g zs (f ∷ []) i))

    among : (x : Fact) → ((y : Fact) → In y (zs ++ f ∷ []) → is_shaded_by x y ≡ false) → In x zs ⊎ In x (f ∷ []) → In x zs
    among x none (inl j) = j
    among x none (inr (inl e)) = of_last x none e u
    among x none (inr (inr j)) = absurd j

    there : (x : Fact) → In x (kept_set (zs ++ f ∷ [])) → In x (kept_set zs)
    there x h =
        let r = kept-In x (zs ++ f ∷ []) h in
        In-kept x zs (among x r.1 (In-cases x zs (f ∷ []) r.0)) (λ y j. r.1 y (In-left y zs (f ∷ []) j))

    over : (x : Fact) → ((y : Fact) → In y zs → is_shaded_by x y ≡ false) → (y : Fact) → In y zs ⊎ In y (f ∷ []) → is_shaded_by x y ≡ false
    over x none y (inl j) = none y j
    over x none y (inr (inl e)) = is_false (is_shaded_by x y) (λ s. clash (is_shaded_by x g) (shaded_through x f g (subst (λ (z : Fact). is_shaded_by x z ≡ true) e s) u) (none g i))
    over x none y (inr (inr j)) = absurd j

    back : (x : Fact) → In x (kept_set zs) → In x (kept_set (zs ++ f ∷ []))
    back x h =
        let r = kept-In x zs h in
        In-kept x (zs ++ f ∷ []) (In-left x zs (f ∷ []) r.0) (λ y j. over x r.1 y (In-cases y zs (f ∷ []) j))

-- ---- two facts by their positions

-- a fact below another at its position is overshadowed by it
pub same_position : (x y : Fact) → position_cmp (position x) (position y) ≡ Equal → fact_cmp x y ≡ Less → is_shaded_by x y ≡ true
same_position End End e h = cc
same_position End Aborted e h = cc
same_position (Removed (Component c)) Aborted e h = cc
same_position (Removed (Flow c n)) Aborted e h = cc
same_position (Field (OfSession a) t v) Aborted e h = cc
same_position (Field (OfComponent c a) t v) Aborted e h = cc
same_position (Field (OfFlow c n a) t v) Aborted e h = cc
same_position (Field (OfRuleName a) t v) Aborted e h = cc
same_position Aborted End e h = cc
same_position Aborted (Removed (Component d)) e h = cc
same_position Aborted (Removed (Flow d m)) e h = cc
same_position Aborted (Field (OfSession b) u w) e h = cc
same_position Aborted (Field (OfComponent d b) u w) e h = cc
same_position Aborted (Field (OfFlow d m b) u w) e h = cc
same_position Aborted (Field (OfRuleName b) u w) e h = cc
same_position Aborted Aborted e h = cc
same_position End (Removed (Component d)) e h = cc
same_position End (Removed (Flow d m)) e h = cc
same_position End (Field (OfSession b) u w) e h = cc
same_position End (Field (OfComponent d b) u w) e h = cc
same_position End (Field (OfFlow d m b) u w) e h = cc
same_position End (Field (OfRuleName b) u w) e h = cc
same_position (Removed (Component c)) End e h = cc
same_position (Removed (Flow c n)) End e h = cc
same_position (Removed r) (Removed s) e h = clash (is_lt (fact_cmp (Removed r) (Removed s))) (ap is_lt h) (ap (λ o. is_lt (ordering_then o Equal)) e)
same_position (Removed (Component c)) (Field (OfSession b) u w) e h = cc
same_position (Removed (Component c)) (Field (OfComponent d b) u w) e h = cc
same_position (Removed (Component c)) (Field (OfFlow d m b) u w) e h = cc
same_position (Removed (Component c)) (Field (OfRuleName b) u w) e h = cc
same_position (Removed (Flow c n)) (Field (OfSession b) u w) e h = cc
same_position (Removed (Flow c n)) (Field (OfComponent d b) u w) e h = cc
same_position (Removed (Flow c n)) (Field (OfFlow d m b) u w) e h = cc
same_position (Removed (Flow c n)) (Field (OfRuleName b) u w) e h = cc
same_position (Field (OfSession a) t v) End e h = cc
same_position (Field (OfComponent c a) t v) End e h = cc
same_position (Field (OfFlow c n a) t v) End e h = cc
same_position (Field (OfRuleName a) t v) End e h = cc
same_position (Field (OfSession a) t v) (Removed (Component d)) e h = cc
same_position (Field (OfComponent c a) t v) (Removed (Component d)) e h = cc
same_position (Field (OfFlow c n a) t v) (Removed (Component d)) e h = cc
same_position (Field (OfRuleName a) t v) (Removed (Component d)) e h = cc
same_position (Field (OfSession a) t v) (Removed (Flow d m)) e h = cc
same_position (Field (OfComponent c a) t v) (Removed (Flow d m)) e h = cc
same_position (Field (OfFlow c n a) t v) (Removed (Flow d m)) e h = cc
same_position (Field (OfRuleName a) t v) (Removed (Flow d m)) e h = cc
same_position (Field p t v) (Field q u w) e h =
    both _ _ (ap is_eq e) (ap is_lt (ap (λ o. ordering_then o (entry_cmp (t, v) (u, w))) (sym e) ∙ h))

-- at another position only what stands before a fact overshadows it
pub shader_before : (x y : Fact) → is_shaded_by x y ≡ true → is_eq (position_cmp (position x) (position y)) ≡ false → position_cmp (position y) (position x) ≡ Less
shader_before End g s e = clash false s refl
shader_before Aborted End s e = refl
shader_before Aborted (Removed r) s e = clash false s refl
shader_before Aborted (Field q u w) s e = clash false s refl
shader_before Aborted Aborted s e = clash false s refl
shader_before (Removed r) Aborted s e = clash false s refl
shader_before (Field p t v) Aborted s e = clash false s refl
shader_before (Removed (Component c)) End s e = refl
shader_before (Removed (Flow c n)) End s e = refl
shader_before (Removed (Component c)) (Removed t) s e = lone_component c t s
  where
    lone_component : (c : ℕ) (t : Removable) → contains t (Component c) ≡ true → position_cmp (position (Removed t)) (position (Removed (Component c))) ≡ Less
    lone_component c (Component d) s = clash false s refl
    lone_component c (Flow d m) s = clash false s refl
shader_before (Removed (Flow c n)) (Removed (Component d)) s e = refl
shader_before (Removed (Flow c n)) (Removed (Flow d m)) s e = clash false s refl
shader_before (Removed r) (Field q u w) s e = clash false s refl
shader_before (Field (OfSession a) t v) End s e = refl
shader_before (Field (OfComponent c a) t v) End s e = refl
shader_before (Field (OfFlow c n a) t v) End s e = refl
shader_before (Field (OfRuleName a) t v) End s e = refl
shader_before (Field (OfSession a) t v) (Removed (Component d)) s e = clash false s refl
shader_before (Field (OfComponent c a) t v) (Removed (Component d)) s e = refl
shader_before (Field (OfFlow c n a) t v) (Removed (Component d)) s e = refl
shader_before (Field (OfRuleName a) t v) (Removed (Component d)) s e = clash false s refl
shader_before (Field (OfSession a) t v) (Removed (Flow d m)) s e = clash false s refl
shader_before (Field (OfComponent c a) t v) (Removed (Flow d m)) s e = clash false s refl
shader_before (Field (OfFlow c n a) t v) (Removed (Flow d m)) s e = refl
shader_before (Field (OfRuleName a) t v) (Removed (Flow d m)) s e = clash false s refl
shader_before (Field p t v) (Field q u w) s e = clash (is_eq (position_cmp (position (Field p t v)) (position (Field q u w)))) (first_so _ _ s) e

-- ---- kept lists rise by position

-- one before another in a kept list stands at a lower position
pub lower : (zs : List Fact) → kept_list zs ≡ zs → (x y : Fact) → In x zs → In y zs → fact_cmp x y ≡ Less → position_cmp (position x) (position y) ≡ Less
lower zs k x y i j h = by (position_cmp (position x) (position y)) refl
  where
    by : (o : Ordering) → position_cmp (position x) (position y) ≡ o → position_cmp (position x) (position y) ≡ Less
    by Less e = e
    by Equal e = clash (is_shaded_by x y) (same_position x y e h) (kept_free zs k x y i j)
    by Greater e = clash (is_lt (fact_cmp x y)) (ap is_lt h) (ap (λ o. is_lt (ordering_then o (option_cmp entry_cmp (entry x) (entry y)))) e)

-- so the positions rise
rises_part : (zs xs : List Fact) → kept_list zs ≡ zs → ((x : Fact) → In x xs → In x zs) → Rises fact_cmp xs → Rises position_cmp (map position xs)
rises_part zs [] k part r = tt
rises_part zs (x ∷ xs) k part r = (
  λ p i. let m = map-In position p xs i in subst (λ q. position_cmp (position x) q ≡ Less) (sym m.2) (lower zs k x m.0 (part x (inl refl)) (part m.0 (inr m.1)) (r.0 m.0 m.1)),
  rises_part zs xs k (λ y i. part y (inr i)) r.1,
)

-- a kept list rises by position
pub kept_places : (zs : List Fact) → kept_list zs ≡ zs → Rises position_cmp (map position zs)
kept_places zs k = rises_part zs zs k (λ x i. i) (kept_rises zs k)

-- ---- the last of a list

-- the last one is that which was added
pub last_of : (p : Position) (js : List Fact) (g : Fact) → last_at p (js ++ g ∷ []) ≡ stands_at p g
last_of p [] g = refl
last_of p (x ∷ []) g = refl
last_of p (x ∷ y ∷ js) g = last_of p (y ∷ js) g

-- a rising list with one more above all rises
pub rises_more : (js : List Fact) (f : Fact) → Rises fact_cmp js → ((g : Fact) → In g js → fact_cmp g f ≡ Less) → Rises fact_cmp (js ++ f ∷ [])
rises_more [] f r h = (λ y i. absurd i, tt)
rises_more (x ∷ js) f r h = (
  λ y i. at_end y (In-cases y js (f ∷ []) i),
  rises_more js f r.1 (λ g i. h g (inr i)),
)
  where
    at_end : (y : Fact) → In y js ⊎ In y (f ∷ []) → fact_cmp x y ≡ Less
    at_end y (inl i) = r.0 y i
    at_end y (inr (inl e)) = ap (fact_cmp x) e ∙ h x (inl refl)
    at_end y (inr (inr i)) = absurd i

-- the first part of a rising list rises
pub rises_front : (js ks : List Fact) → Rises fact_cmp (js ++ ks) → Rises fact_cmp js
rises_front [] ks r = tt
rises_front (x ∷ js) ks r = (λ y i. r.0 y (In-left y js ks i), rises_front js ks r.1)

-- and stands below the rest
pub front_below : (js ks : List Fact) → Rises fact_cmp (js ++ ks) → (x y : Fact) → In x js → In y ks → fact_cmp x y ≡ Less
front_below [] ks r x y i j = absurd i
front_below (z ∷ js) ks r x y (inl e) j = ap (λ w. fact_cmp w y) e ∙ r.0 y (In-right y js ks j)
front_below (z ∷ js) ks r x y (inr i) j = front_below js ks r.1 x y i j

-- what is not below another is at it or above
not_below : (f g : Fact) → is_lt (fact_cmp f g) ≡ false → (fact_cmp g f ≡ Less) ⊎ (f ≡ g)
not_below f g h = by (fact_cmp g f) refl
  where
    by : (o : Ordering) → fact_cmp g f ≡ o → (fact_cmp g f ≡ Less) ⊎ (f ≡ g)
    by Less e = inl e
    by Equal e = inr (sym (fact_ranked.same g f e))
    by Greater e = clash (is_lt (fact_cmp f g)) (ap is_lt (fact_ranked.total.antisymm f g ∙ ap ordering_reverse e)) h

-- by position
position_up : (f g : Fact) → is_lt (fact_cmp f g) ≡ false → is_eq (position_cmp (position g) (position f)) ≡ false → position_cmp (position g) (position f) ≡ Less
position_up f g h n = by (not_below f g h)
  where
    low : fact_cmp g f ≡ Less → (o : Ordering) → position_cmp (position g) (position f) ≡ o → position_cmp (position g) (position f) ≡ Less
    low l Less e = e
    low l Equal e = clash (is_eq (position_cmp (position g) (position f))) (ap is_eq e) n
    low l Greater e = clash (is_lt (fact_cmp g f)) (ap is_lt l) (ap (λ o. is_lt (ordering_then o (option_cmp entry_cmp (entry g) (entry f)))) e)

    by : (fact_cmp g f ≡ Less) ⊎ (f ≡ g) → position_cmp (position g) (position f) ≡ Less
    by (inl l) = low l (position_cmp (position g) (position f)) refl
    by (inr e) = clash (is_eq (position_cmp (position g) (position f))) (ap (λ (x : Fact). is_eq (position_cmp (position g) (position x))) e ∙ ap is_eq (tied_itself position_ranked.total (position g))) n

-- a lower position is a lower fact
pub position_first : (g f : Fact) → position_cmp (position g) (position f) ≡ Less → fact_cmp g f ≡ Less
position_first g f h = ap (λ o. ordering_then o (option_cmp entry_cmp (entry g) (entry f))) h

-- ---- one fact more

-- where none at its position and nothing that removes it is there
added : (js : List Fact) (f : Fact) → Rises fact_cmp js → ((x y : Fact) → In x js → In y js → is_shaded_by x y ≡ false)
    → ((g : Fact) → In g js → position_cmp (position g) (position f) ≡ Less)
    → ((g : Fact) → In g js → is_shaded_by f g ≡ false)
    → kept_list (js ++ f ∷ []) ≡ js ++ f ∷ []
added js f r free low none = kept_when (js ++ f ∷ []) (rises_more js f r (λ g i. position_first g f (low g i))) (λ x y i j. pair x y (In-cases x js (f ∷ []) i) (In-cases y js (f ∷ []) j))
  where
    above : (x y : Fact) → In x js → y ≡ f → is_shaded_by x y ≡ false
    above x y i e = is_false (is_shaded_by x y) (λ s.
        let t : is_shaded_by x f ≡ true = subst (λ (z : Fact). is_shaded_by x z ≡ true) e s in
        let before = shader_before x f t (ap is_eq (low x i)) in
        clash (is_lt (position_cmp (position f) (position x))) (ap is_lt before) (ap is_lt (position_ranked.total.antisymm (position f) (position x) ∙ ap ordering_reverse (low x i))))

    pair : (x y : Fact) → In x js ⊎ In x (f ∷ []) → In y js ⊎ In y (f ∷ []) → is_shaded_by x y ≡ false
    pair x y (inl i) (inl j) = free x y i j
    pair x y (inl i) (inr (inl e)) = above x y i e
    pair x y (inl i) (inr (inr j)) = absurd j
    pair x y (inr (inl e)) (inl j) = ap (λ (z : Fact). is_shaded_by z y) e ∙ none y j
    pair x y (inr (inl e)) (inr (inl d)) = ap (λ (z : Fact). is_shaded_by z y) (e ∙ sym d) ∙ shaded_irr y
    pair x y (inr (inl e)) (inr (inr j)) = absurd j
    pair x y (inr (inr i)) k = absurd i

-- each of a kept list stands below a fact that is below none of it, unless the last stands at its position
split_last : (x : Fact) (xs : List Fact) → (js : List Fact) × (g : Fact) × (x ∷ xs ≡ js ++ g ∷ [])
split_last x [] = ([], x, refl)
split_last x (y ∷ ys) = let r = split_last y ys in (x ∷ r.0, r.1, ap (λ (l : List Fact). x ∷ l) r.2)

below_last : (js : List Fact) (l f : Fact) → kept_list (js ++ l ∷ []) ≡ js ++ l ∷ [] → position_cmp (position l) (position f) ≡ Less → (g : Fact) → In g (js ++ l ∷ []) → position_cmp (position g) (position f) ≡ Less
below_last js l f k h g i = by (In-cases g js (l ∷ []) i)
  where
    by : In g js ⊎ In g (l ∷ []) → position_cmp (position g) (position f) ≡ Less
    by (inl j) = position_ranked.total.trans (position g) (position l) (position f)
        (lower (js ++ l ∷ []) k g l i (In-right l js (l ∷ []) (inl refl)) (front_below js (l ∷ []) (kept_rises _ k) g l j (inl refl))) h
    by (inr (inl e)) = ap (λ (z : Fact). position_cmp (position z) (position f)) e ∙ h
    by (inr (inr j)) = absurd j

pub all_lower : (zs : List Fact) (f : Fact) → kept_list zs ≡ zs → ((g : Fact) → In g zs → is_lt (fact_cmp f g) ≡ false) → last_at (position f) zs ≡ false → (g : Fact) → In g zs → position_cmp (position g) (position f) ≡ Less
all_lower [] f k up n g i = absurd i
all_lower (x ∷ xs) f k up n g i =
    let s = split_last x xs in
    let kl : kept_list (s.0 ++ s.1 ∷ []) ≡ s.0 ++ s.1 ∷ [] = subst (λ (l : List Fact). kept_list l ≡ l) s.2 k in
    let il : In g (s.0 ++ s.1 ∷ []) = subst (λ (l : List Fact). In g l) s.2 i in
    let last_in : In s.1 (x ∷ xs) = subst (λ (l : List Fact). In s.1 l) (sym s.2) (In-right s.1 s.0 (s.1 ∷ []) (inl refl)) in
    let off : is_eq (position_cmp (position s.1) (position f)) ≡ false = sym (last_of (position f) s.0 s.1) ∙ ap (last_at (position f)) (sym s.2) ∙ n in
    below_last s.0 s.1 f kl (position_up f s.1 (up s.1 last_in) off) g il

-- the last one is that which was added
pub before_last : (p : Position) (js : List Fact) (g : Fact) → last_before p (js ++ g ∷ []) ≡ is_lt (position_cmp (position g) p)
before_last p [] g = refl
before_last p (x ∷ []) g = refl
before_last p (x ∷ y ∷ js) g = before_last p (y ∷ js) g

-- where the last stands below a fact, all do
past_all : (zs : List Fact) (f : Fact) → kept_list zs ≡ zs → last_before (position f) zs ≡ true → (g : Fact) → In g zs → position_cmp (position g) (position f) ≡ Less
past_all [] f k n g i = absurd i
past_all (x ∷ xs) f k n g i =
    let s = split_last x xs in
    let kl : kept_list (s.0 ++ s.1 ∷ []) ≡ s.0 ++ s.1 ∷ [] = subst (λ (l : List Fact). kept_list l ≡ l) s.2 k in
    let il : In g (s.0 ++ s.1 ∷ []) = subst (λ (l : List Fact). In g l) s.2 i in
    below_last s.0 s.1 f kl (lt_less _ (sym (before_last (position f) s.0 s.1) ∙ ap (last_before (position f)) (sym s.2) ∙ n)) g il

-- a list with one more past its last, which nothing in it removes, is kept where the list is
pub kept_more : (zs : List Fact) (f : Fact) → kept_list zs ≡ zs → last_before (position f) zs ≡ true → list_any (removes (beneath_of f)) zs ≡ false → kept_list (zs ++ f ∷ []) ≡ zs ++ f ∷ []
kept_more zs f k n gone = added zs f (kept_rises zs k) (kept_free zs k) low (λ g i. shades_beneath f g (turned g i) ∙ none-any (removes (beneath_of f)) zs gone g i)
  where
    low : (g : Fact) → In g zs → position_cmp (position g) (position f) ≡ Less
    low = past_all zs f k n

    turned : (g : Fact) → In g zs → is_eq (position_cmp (position f) (position g)) ≡ false
    turned g i = ap is_eq (position_ranked.total.antisymm (position f) (position g) ∙ ap ordering_reverse (low g i))

-- a front of what is kept is kept
pub kept_front : (js ks : List Fact) → kept_list (js ++ ks) ≡ js ++ ks → kept_list js ≡ js
kept_front js ks k = kept_when js (rises_front js ks (kept_rises (js ++ ks) k)) (λ x y i j. kept_free (js ++ ks) k x y (In-left x js ks i) (In-left y js ks j))

-- a fact that is kept behind others stands past them
pub past_last : (zs : List Fact) (f : Fact) → kept_list (zs ++ f ∷ []) ≡ zs ++ f ∷ [] → last_before (position f) zs ≡ true
past_last zs f k = by zs (kept_places (zs ++ f ∷ []) k)
  where
    by : (zs : List Fact) → Rises position_cmp (map position (zs ++ f ∷ [])) → last_before (position f) zs ≡ true
    by [] r = refl
    by (x ∷ []) r = ap is_lt (r.0 (position f) (inl refl))
    by (x ∷ y ∷ ys) r = by (y ∷ ys) r.1

-- and none of them removes it
pub none_before : (zs : List Fact) (f : Fact) → kept_list (zs ++ f ∷ []) ≡ zs ++ f ∷ [] → list_any (removes (beneath_of f)) zs ≡ false
none_before zs f k = is_false (list_any (removes (beneath_of f)) zs) (λ gone. fell (any-In (removes (beneath_of f)) zs gone))
  where
    last : In f (zs ++ f ∷ [])
    last = In-right f zs (f ∷ []) (inl refl)

    fell : ((g : Fact) × In g zs × (removes (beneath_of f) g ≡ true)) → ⊥
    fell r =
        let there : In r.0 (zs ++ f ∷ []) = In-left r.0 zs (f ∷ []) r.1 in
        let low : position_cmp (position r.0) (position f) ≡ Less = lower (zs ++ f ∷ []) k r.0 f there last (front_below zs (f ∷ []) (kept_rises (zs ++ f ∷ []) k) r.0 f r.1 (inl refl)) in
        let apart : is_eq (position_cmp (position f) (position r.0)) ≡ false = ap is_eq (position_ranked.total.antisymm (position f) (position r.0) ∙ ap ordering_reverse low) in
        clash (is_shaded_by f r.0) (shades_beneath f r.0 apart ∙ r.2) (kept_free (zs ++ f ∷ []) k f r.0 last there)

-- a fact that stands above all, and that nothing removes, goes to the end
pub put_last : (zs : List Fact) (f : Fact) → kept_list zs ≡ zs → ((g : Fact) → In g zs → is_lt (fact_cmp f g) ≡ false) → last_at (position f) zs ≡ false → list_any (removes (beneath_of f)) zs ≡ false → zs ++ f ∷ [] ≡ join_of zs (f ∷ [])
put_last zs f k up n gone = sym (added zs f (kept_rises zs k) (kept_free zs k) low (λ g i. shades_beneath f g (turned g i) ∙ none-any (removes (beneath_of f)) zs gone g i))
  where
    low : (g : Fact) → In g zs → position_cmp (position g) (position f) ≡ Less
    low = all_lower zs f k up n

    turned : (g : Fact) → In g zs → is_eq (position_cmp (position f) (position g)) ≡ false
    turned g i = ap is_eq (position_ranked.total.antisymm (position f) (position g) ∙ ap ordering_reverse (low g i))

-- what is removed adds nothing
pub put_gone : (zs : List Fact) (f : Fact) → kept_list zs ≡ zs → ((g : Fact) → In g zs → is_lt (fact_cmp f g) ≡ false) → last_at (position f) zs ≡ false → list_any (removes (beneath_of f)) zs ≡ true → zs ≡ join_of zs (f ∷ [])
put_gone zs f k up n gone =
    let r = any-In (removes (beneath_of f)) zs gone in
    let low = all_lower zs f k up n r.0 r.1 in
    let apart : is_eq (position_cmp (position f) (position r.0)) ≡ false = ap is_eq (position_ranked.total.antisymm (position f) (position r.0) ∙ ap ordering_reverse low) in
    sym (held_drop f r.0 zs r.1 (inr (shades_beneath f r.0 apart ∙ r.2)) ∙ k)

-- what stands at the last one's position takes its place
pub put_over : (js : List Fact) (l f : Fact) → kept_list (js ++ l ∷ []) ≡ js ++ l ∷ [] → ((g : Fact) → In g (js ++ l ∷ []) → is_lt (fact_cmp f g) ≡ false) → last_at (position f) (js ++ l ∷ []) ≡ true → js ++ f ∷ [] ≡ join_of (js ++ l ∷ []) (f ∷ [])
put_over js l f k up at =
    sym (held-Same ((js ++ l ∷ []) ++ f ∷ []) ((js ++ f ∷ []) ++ l ∷ []) swapped
    ∙ held_drop l f (js ++ f ∷ []) (In-right f js (f ∷ []) (inl refl)) under
    ∙ added js f (rises_front js (l ∷ []) (kept_rises _ k)) (λ x y i j. kept_free _ k x y (In-left x js (l ∷ []) i) (In-left y js (l ∷ []) j)) low none)
  where
    here : In l (js ++ l ∷ [])
    here = In-right l js (l ∷ []) (inl refl)

    same : position_cmp (position l) (position f) ≡ Equal
    same = (Equal-is (position_cmp (position l) (position f))).0 (sym (last_of (position f) js l) ∙ at)

    under_by : (fact_cmp l f ≡ Less) ⊎ (f ≡ l) → AtOrUnder l f
    under_by (inl h) = inr (same_position l f same h)
    under_by (inr e) = inl (sym e)

    under : AtOrUnder l f
    under = under_by (not_below f l (up l here))

    swapped : Same ((js ++ l ∷ []) ++ f ∷ []) ((js ++ f ∷ []) ++ l ∷ [])
    swapped =
        let turn = Same-append js (l ∷ f ∷ []) js (f ∷ l ∷ []) (Same-itself js) (Same-turn (l ∷ []) (f ∷ [])) in
        subst (λ (u : List Fact). Same u ((js ++ f ∷ []) ++ l ∷ [])) (sym (append_assoc js (l ∷ []) (f ∷ [])))
        (subst (λ (u : List Fact). Same (js ++ l ∷ f ∷ []) u) (sym (append_assoc js (f ∷ []) (l ∷ []))) turn)

    low : (g : Fact) → In g js → position_cmp (position g) (position f) ≡ Less
    low g i =
        let lower_than_last = lower (js ++ l ∷ []) k g l (In-left g js (l ∷ []) i) here (front_below js (l ∷ []) (kept_rises _ k) g l i (inl refl)) in
        subst (λ q. position_cmp (position g) q ≡ Less) (position_ranked.same (position l) (position f) same) lower_than_last

    none : (g : Fact) → In g js → is_shaded_by f g ≡ false
    none g i = is_false (is_shaded_by f g) (λ s. clash (is_shaded_by l g) (shade g s under) (kept_free _ k l g here (In-left g js (l ∷ []) i)))
      where
        shade : (g : Fact) → is_shaded_by f g ≡ true → AtOrUnder l f → is_shaded_by l g ≡ true
        shade g s (inl e) = subst (λ (z : Fact). is_shaded_by z g ≡ true) (sym e) s
        shade g s (inr t) = shaded_trans l f g t s

-- ---- the same of typed facts

module _ {A : Type 0} (fact : A → Fact) where
  -- the last of a list that was split
  pub last_mapped : (p : Position) (xs js : List A) (l : A) → xs ≡ js ++ l ∷ [] → last_at p (map fact xs) ≡ stands_at p (fact l)
  last_mapped p xs js l e = ap (λ (z : List A). last_at p (map fact z)) e ∙ ap (last_at p) (map-append fact js (l ∷ [])) ∙ last_of p (map fact js) (fact l)

  -- what takes the place of the last
  pub put_over_mapped : (were js are : List A) (l f : A) → were ≡ js ++ l ∷ [] → are ≡ js ++ f ∷ []
      → kept_list (map fact were) ≡ map fact were → ((g : Fact) → In g (map fact were) → is_lt (fact_cmp (fact f) g) ≡ false) → last_at (position (fact f)) (map fact were) ≡ true
      → map fact are ≡ join_of (map fact were) (fact f ∷ [])
  put_over_mapped were js are l f w a k up at =
      let e : map fact were ≡ map fact js ++ fact l ∷ [] = ap (map fact) w ∙ map-append fact js (l ∷ []) in
      ap (map fact) a ∙ map-append fact js (f ∷ [])
      ∙ put_over (map fact js) (fact l) (fact f)
      (subst (λ (z : List Fact). kept_list z ≡ z) e k)
      (λ g i. up g (subst (λ (z : List Fact). In g z) (sym e) i))
      (ap (last_at (position (fact f))) (sym e) ∙ at)
      ∙ ap (λ (z : List Fact). join_of z (fact f ∷ [])) (sym e)

  -- what goes to the end
  pub put_last_mapped : (were are : List A) (f : A) → are ≡ were ++ f ∷ []
      → kept_list (map fact were) ≡ map fact were → ((g : Fact) → In g (map fact were) → is_lt (fact_cmp (fact f) g) ≡ false)
      → last_at (position (fact f)) (map fact were) ≡ false → list_any (removes (beneath_of (fact f))) (map fact were) ≡ false
      → map fact are ≡ join_of (map fact were) (fact f ∷ [])
  put_last_mapped were are f a k up n gone = ap (map fact) a ∙ map-append fact were (f ∷ []) ∙ put_last (map fact were) (fact f) k up n gone

  -- the last of a list that was split
  pub before_mapped : (p : Position) (xs js : List A) (l : A) → xs ≡ js ++ l ∷ [] → last_before p (map fact xs) ≡ is_lt (position_cmp (position (fact l)) p)
  before_mapped p xs js l e = ap (λ (z : List A). last_before p (map fact z)) e ∙ ap (last_before p) (map-append fact js (l ∷ [])) ∙ before_last p (map fact js) (fact l)

-- ---- facts that add nothing

-- a fact that stands where another does, and is not above it, is covered by that
pub covered_at : (zs : List Fact) (f g : Fact) → In g zs → position g ≡ position f → is_lt (option_cmp entry_cmp (entry g) (entry f)) ≡ false → IsCovered f zs
covered_at zs f g i e h = (g, i, by (fact_cmp f g) refl)
  where
    same : position_cmp (position f) (position g) ≡ Equal
    same = ap (position_cmp (position f)) e ∙ tied_itself position_ranked.total (position f)

    back : position_cmp (position g) (position f) ≡ Equal
    back = ap (position_cmp (position g)) (sym e) ∙ tied_itself position_ranked.total (position g)

    by : (o : Ordering) → fact_cmp f g ≡ o → AtOrUnder f g
    by Less l = inr (same_position f g same l)
    by Equal l = inl (fact_ranked.same f g l)
    by Greater l = clash (is_lt (fact_cmp g f)) (ap is_lt (fact_ranked.total.antisymm g f ∙ ap ordering_reverse l)) (ap (λ o. is_lt (ordering_then o (option_cmp entry_cmp (entry g) (entry f)))) back ∙ h)

-- a fact that is removed, where none stands at its position, is covered
pub covered_gone : (zs : List Fact) (f : Fact) → ((g : Fact) → In g zs → position g ≡ position f → ⊥) → list_any (removes (beneath_of f)) zs ≡ true → IsCovered f zs
covered_gone zs f none gone =
    let r = any-In (removes (beneath_of f)) zs gone in
    let apart : is_eq (position_cmp (position f) (position r.0)) ≡ false = is_false _ (λ t. none r.0 r.1 (sym (position_ranked.same (position f) (position r.0) ((Equal-is _).0 t)))) in
    (r.0, r.1, inr (shades_beneath f r.0 apart ∙ r.2))

-- what is covered adds nothing
pub covered_joins : (xs ys : List Fact) (f : Fact) → kept_list xs ≡ xs → IsCovered f xs → join_of xs (f ∷ ys) ≡ join_of xs ys
covered_joins xs ys f k c =
    ap kept_list (sym (append_assoc xs (f ∷ []) ys))
    ∙ sym (joined-held (xs ++ f ∷ []) ys)
    ∙ ap (λ (l : List Fact). join_of l ys) (held_drop f c.0 xs c.1 c.2 ∙ k)

-- ---- fronts of typed facts

-- where a front of typed facts, with the fact behind it, isn't kept, all are not
pub not_kept_from : {A : Type 0} (fact : A → Fact) (xs front rest : List A) (x : A) → xs ≡ front ++ x ∷ rest → (kept_list (map fact front ++ fact x ∷ []) ≡ map fact front ++ fact x ∷ [] → ⊥) → kept_list (map fact xs) ≡ map fact xs → ⊥
not_kept_from fact xs front rest x e fails k =
    let parts : map fact xs ≡ (map fact front ++ fact x ∷ []) ++ map fact rest =
    ap (map fact) e ∙ map-append fact front (x ∷ rest) ∙ sym (append_assoc (map fact front) (fact x ∷ []) (map fact rest)) in
    fails (kept_front (map fact front ++ fact x ∷ []) (map fact rest) (subst (λ (l : List Fact). kept_list l ≡ l) parts k))
