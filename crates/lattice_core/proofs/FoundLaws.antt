-- What a search by position finds shows at its place.
use Rattle.std.proofs.Common.{◌≡◌, ℕ, zero, suc, ◌<◌, ◌+◌, Bool, true, false, List, [], ◌∷◌, ◌++◌, length, get_or, map, take, is_some, ◌||◌, ◌⊎◌, Option, Some, None, inl, inr, refl, sym, ap, ◌∙◌, subst, arith, Result, Ok, Err, Ordering, Less, Equal, Greater}
use Rattle.std.specs.Ordering.{is_eq, is_lt, ordering_reverse}
use Rattle.std.specs.List.{list_any}
use Rattle.std.specs.List.Sorted.{IsSearchInRange, IsBinarySearchResult}
use Rattle.std.specs.Cmp.{tied_itself}
use Rattle.std.proofs.lemmas.List.Folds.{list_any-append}
use Rattle.std.proofs.lemmas.List.{map_more}
use Rattle.pcrf_values.specs.declared.tag.Tag.{Tag}
use Rattle.pcrf_values.specs.Sets.{In, Same}
use Rattle.pcrf_values.proofs.Plain.{clash, is_false, none_some, or_left, some_same}
use Rattle.pcrf_values.proofs.SetLaws.{any-In, In-any, none-any}
use Rattle.pcrf_values.specs.Places.{Place, Component, Flow, Position, position_cmp, place_position}
use Rattle.pcrf_values.specs.Values.{Value, Entry}
use Rattle.pcrf_values.specs.Facts.{Fact, End, Removed, Field, Aborted, position, entry, fact_cmp, is_shaded_by}
use Rattle.pcrf_values.specs.Held.{kept_set, kept_list, entry_shown}
use Rattle.pcrf_values.proofs.FactLaws.{fact_ranked, position_ranked, place_ranked}
use Rattle.pcrf_values.proofs.JoinedLaws.{sorted-In}
use Rattle.pcrf_values.proofs.ShownLaws.{shown_alone}
use Rattle.lattice_core.specs.declared.fact.Beneath.TheVariants as beneath
use Rattle.lattice_core.specs.Beneath.{stands_at, removes}
use Rattle.lattice_core.specs.Found.{IsFound, entry_found}
use Rattle.lattice_core.proofs.BeneathLaws.{field_removes}
use Rattle.lattice_core.proofs.KeepLaws.{kept_free, kept_places, lower}
use Rattle.lattice_core.proofs.SearchLaws.{found_by_search}

-- ---- one fact at each position

-- two kept facts at one position are one
pub one_at : (zs : List Fact) → kept_list zs ≡ zs → (x y : Fact) → In x zs → In y zs → position x ≡ position y → x ≡ y
one_at zs k x y i j e = by (fact_cmp x y) refl
  where
    same : position_cmp (position x) (position y) ≡ Equal
    same = ap (position_cmp (position x)) (sym e) ∙ tied_itself position_ranked.total (position x)

    back : position_cmp (position y) (position x) ≡ Equal
    back = ap (position_cmp (position y)) e ∙ tied_itself position_ranked.total (position y)

    by : (o : Ordering) → fact_cmp x y ≡ o → x ≡ y
    by Less h = clash (is_lt (position_cmp (position x) (position y))) (ap is_lt (lower zs k x y i j h)) (ap is_lt same)
    by Equal h = fact_ranked.same x y h
    by Greater h = clash (is_lt (position_cmp (position y) (position x))) (ap is_lt (lower zs k y x j i (fact_ranked.total.antisymm y x ∙ ap ordering_reverse h))) (ap is_lt back)

-- what was found at the position of a place shows there
pub shown_found : (zs : List Fact) (p : Place) (o : Option Fact) → kept_list zs ≡ zs → IsFound (place_position p) zs o → entry_found o ≡ entry_shown zs p
shown_found zs p o k found = sym (shown_alone zs p (entry_found o) same (record { stands = λ e h. stands o found e h; alone = λ e i. alone o found e i }))
  where
    same : Same zs (kept_set zs)
    same x = (
      λ i. (sorted-In (kept_set zs) x).0 (subst (λ (l : List Fact). In x l) (sym k) i),
      λ i. subst (λ (l : List Fact). In x l) k ((sorted-In (kept_set zs) x).1 i),
    )

    field_is : (q : Place) (t : Tag) (v : Value) (e : Entry) → place_position q ≡ place_position p → entry (Field q t v) ≡ Some e → Field q t v ≡ Field p e.0 e.1
    field_is q t v e h s =
        let place : q ≡ p = place_ranked.same q p (ap (position_cmp (place_position q)) (sym h) ∙ tied_itself position_ranked.total (place_position q)) in
        let said : (t, v) ≡ e = some_same (t, v) e s in
        λ i. Field (place i) (said i).0 (said i).1

    by_fact : (f : Fact) (e : Entry) → position f ≡ place_position p → entry f ≡ Some e → f ≡ Field p e.0 e.1
    by_fact End e h s = none_some e s
    by_fact (Removed r) e h s = none_some e s
    by_fact Aborted e h s = none_some e s
    by_fact (Field q t v) e h s = field_is q t v e h s

    stands : (o : Option Fact) → IsFound (place_position p) zs o → (e : Entry) → entry_found o ≡ Some e → In (Field p e.0 e.1) zs
    stands None f e h = none_some e h
    stands (Some x) f e h = subst (λ (z : Fact). In z zs) (by_fact x e f.1 h) f.0

    alone : (o : Option Fact) → IsFound (place_position p) zs o → (e : Entry) → In (Field p e.0 e.1) zs → entry_found o ≡ Some e
    alone None f e i = absurd (f (Field p e.0 e.1) i refl)
    alone (Some x) f e i = ap entry (one_at zs k x (Field p e.0 e.1) f.0 i f.1)

-- ---- the search

-- a member of what was made
pub In-made : {A : Type 0} (fact : A → Fact) (xs : List A) (at : ℕ) (x : A) → at < length xs → x ≡ get_or xs at x → In (fact x) (map fact xs)
In-made fact [] at x lt e = absurd (omega arith)
In-made fact (y ∷ ys) zero x lt e = inl (ap fact e)
In-made fact (y ∷ ys) (suc at) x lt e = inr (In-made fact ys at x (omega arith) e)

-- what a search found
pub found_there : {A : Type 0} (fact : A → Fact) (xs : List A) (p : Position) (at : ℕ) (x : A) → at < length xs → x ≡ get_or xs at x → position_cmp (position (fact (get_or xs at x))) p ≡ Equal → IsFound p (map fact xs) (Some (fact x))
found_there fact xs p at x lt e h = (In-made fact xs at x lt e, position_ranked.same (position (fact x)) p (ap (λ y. position_cmp (position (fact y)) p) e ∙ h))

-- where it found nothing, nothing is there
pub found_none : {A : Type 0} (fact : A → Fact) (xs : List A) (p : Position) (at : ℕ) → kept_list (map fact xs) ≡ map fact xs → IsSearchInRange (Err at) (length xs) → IsBinarySearchResult (λ x. position_cmp (position (fact x)) p) xs (Err at) → IsFound p (map fact xs) None
found_none fact xs p at k bound parted f i e =
    let none = sym (found_by_search position_cmp position_ranked.total fact position xs p (kept_places (map fact xs) k) (Err at) bound parted) in
    clash (is_eq (position_cmp (position f) p)) (ap is_eq (ap (position_cmp (position f)) (sym e) ∙ tied_itself position_ranked.total (position f))) (none-any (λ y. is_eq (position_cmp (position y) p)) (map fact xs) none f i)

-- ---- facts that are looked at one after the other

-- a comparison that answers `Equal`
is_equal : (o : Ordering) → is_eq o ≡ true → o ≡ Equal
is_equal Less h = absurd (cc)
is_equal Equal h = refl
is_equal Greater h = absurd (cc)

-- what is at a position stands there
stands_there : (p : Position) (f : Fact) → position f ≡ p → stands_at p f ≡ true
stands_there p f e = ap is_eq (ap (position_cmp (position f)) (sym e) ∙ tied_itself position_ranked.total (position f))

-- what stands at a position is at it
at_there : (p : Position) (f : Fact) → stands_at p f ≡ true → position f ≡ p
at_there p f h = position_ranked.same (position f) p (is_equal (position_cmp (position f) p) h)

-- the one that is looked at stands there
pub found_here : {A : Type 0} (fact : A → Fact) (xs : List A) (p : Position) (at : ℕ) (x : A) → at < length xs → x ≡ get_or xs at x → stands_at p (fact x) ≡ true → IsFound p (map fact xs) (Some (fact x))
found_here fact xs p at x lt e h = (In-made fact xs at x lt e, at_there p (fact x) h)

-- nor does the next
pub none_yet : {A : Type 0} (fact : A → Fact) (xs : List A) (p : Position) (at : ℕ) (x : A) → at < length xs → x ≡ get_or xs at x → stands_at p (fact x) ≡ false → list_any (stands_at p) (map fact (take at xs)) ≡ false → list_any (stands_at p) (map fact (take (at + 1) xs)) ≡ false
none_yet fact xs p at x lt e other none =
    let more = map_more fact xs at x lt ∙ ap (λ y. map fact (take at xs) ++ fact y ∷ []) (sym e) in
    ap (list_any (stands_at p)) more ∙ list_any-append (stands_at p) (map fact (take at xs)) (fact x ∷ []) ∙ rw (none, other) refl

-- none of all stands there
pub none_there : (zs : List Fact) (p : Position) → list_any (stands_at p) zs ≡ false → IsFound p zs None
none_there zs p none f i e = clash (stands_at p f) (stands_there p f e) (none-any (stands_at p) zs none f i)

-- whether something was found
pub is_found : (zs : List Fact) (p : Position) (o : Option Fact) → IsFound p zs o → is_some o ≡ list_any (stands_at p) zs
is_found zs p None f = sym (is_false (list_any (stands_at p) zs) (λ t. let r = any-In (stands_at p) zs t in absurd (f r.0 r.1 (at_there p r.0 r.2))))
is_found zs p (Some x) f = sym (In-any (stands_at p) x zs f.0 (stands_there p x f.1))

-- ---- the end

-- only the end stands at its position
the_end : (y : Fact) → stands_at (position End) y ≡ true → y ≡ End
the_end End h = refl
the_end Aborted h = clash false h refl
the_end (Removed (Component c)) h = clash false h refl
the_end (Removed (Flow c n)) h = clash false h refl
the_end (Field p t v) h = clash (stands_at (position End) (Field p t v)) h (field_removes beneath.Session p t v)

-- what the end doesn't overshadow is the end
not_shaded : (x : Fact) → is_shaded_by x End ≡ false → stands_at (position End) x ≡ true
not_shaded End h = refl
not_shaded Aborted h = clash true refl h
not_shaded (Removed r) h = clash true refl h
not_shaded (Field p t v) h = clash true refl h

-- a kept list is ended just where it begins with the end
pub ended_first : (x : Fact) (xs : List Fact) → kept_list (x ∷ xs) ≡ x ∷ xs → stands_at (position End) x ≡ list_any (removes beneath.Session) (x ∷ xs)
ended_first x xs k = by (stands_at (position End) x) refl
  where
    none : stands_at (position End) x ≡ false → list_any (stands_at (position End)) xs ≡ false
    none f = is_false (list_any (stands_at (position End)) xs) (λ t.
        let r = any-In (stands_at (position End)) xs t in
        let free : is_shaded_by x End ≡ false = subst (λ (z : Fact). is_shaded_by x z ≡ false) (the_end r.0 r.2) (kept_free (x ∷ xs) k x r.0 (inl refl) (inr r.1)) in
        clash (stands_at (position End) x) (not_shaded x free) f)

    by : (b : Bool) → stands_at (position End) x ≡ b → stands_at (position End) x ≡ list_any (removes beneath.Session) (x ∷ xs)
    by true e = e ∙ sym (or_left (stands_at (position End) x) (list_any (stands_at (position End)) xs) e)
    by false e = e ∙ sym (both_false (stands_at (position End) x) (list_any (stands_at (position End)) xs) e (none e))
      where
        both_false : (a b : Bool) → a ≡ false → b ≡ false → (a || b) ≡ false
        both_false true b h k = h
        both_false false b h k = k

-- the same of typed facts
pub ended_mapped : {A : Type 0} (fact : A → Fact) (xs rest : List A) (x : A) → xs ≡ x ∷ rest → kept_list (map fact xs) ≡ map fact xs → stands_at (position End) (fact x) ≡ list_any (removes beneath.Session) (map fact xs)
ended_mapped {A} fact xs rest x e k =
    ended_first (fact x) (map fact rest) (subst (λ (l : List A). kept_list (map fact l) ≡ map fact l) e k)
    ∙ sym (ap (λ (l : List A). list_any (removes beneath.Session) (map fact l)) e)
