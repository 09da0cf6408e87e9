-- What a map is whose values a table finds, and what it becomes when an entry is written, put in or taken out.
use Rattle.std.proofs.Common.{◌≡◌, ℕ, suc, Bool, true, false, cond, ◌||◌, List, [], ◌∷◌, length, Option, Some, None, Result, Ok, Err, IfOk, OnErr, if◌then◌else◌, sym, ap, ◌∙◌, refl, subst}
use Rattle.std.specs.Option.{is_some, IfSome, unwrap_or}
use Rattle.std.specs.List.{list_any, AllByRecursion}
use Rattle.std.specs.List.Sorted.{IsStrictlySortedBy}
use Rattle.std.specs.Map.{lookup}
use Rattle.std.specs.HashMap.{HashMap, WritesThrough}
use Rattle.std.specs.BTreeMap.{is_at, insert_entry}
use Rattle.std.specs.declared.cmp.Ordering.{Ordering}
use Rattle.std.specs.declared.cmp.Ordering.TheVariants.{Less, Equal, Greater}
use Rattle.std.specs.Ordering.{is_eq, ordering_reverse}
use Rattle.std.specs.Cmp.{IsTotalOrder}
use Rattle.std.proofs.lemmas.Cmp.{tied_itself}
use Rattle.std.proofs.lemmas.Map.Steps.{set_value_same}
use Rattle.pcrf_values.specs.Exact.{IsExact}
use Rattle.lattice_core.specs.Entries.{value_at, IsBelow, IsAscending, AllValues, put}
use Rattle.lattice_core.specs.Hashed.{entries_of, found_before, AreFound, IsHashed}
use Rattle.lattice_core.specs.Lookups.{joined_onto}
use Rattle.lattice_core.specs.Placed.{map_with}
use Rattle.lattice_core.specs.laws.Maps.{rises, all_valid}
use Rattle.lattice_core.proofs.Lookups.{value_put}
use Rattle.lattice_core.proofs.PlacedValues.{value_placed}
use Rattle.lattice_core.proofs.SameLookups.{same_lookups}
use Rattle.lattice_core.proofs.Trees.{later, put_is_over, put_is_new, rises_removed, valid_removed}

-- nothing, whatever a test says
nothing_either_way : {V : Type 0} (b : Bool) (r : Option V) → r ≡ None → cond b r None ≡ None
nothing_either_way true r h = h
nothing_either_way false r h = refl

-- what is not there is nothing
none_from : {V : Type 0} (r : Option V) → is_some r ≡ false → r ≡ None
none_from None h = refl
none_from (Some v) h = absurd (cc)

-- what is there by one of two values
some_either_way : {V : Type 0} (b : Bool) (r w : Option V) → is_some (cond b w r) ≡ cond b (is_some w) (is_some r)
some_either_way true r w = refl
some_either_way false r w = refl

-- a test of the rest passes among all
behind : (b r : Bool) → r ≡ true → (b || r) ≡ true
behind true r h = refl
behind false r h = h

-- a comparison that answers `Equal`
tied : (p : Ordering) → is_eq p ≡ true → p ≡ Equal
tied Less h = absurd (cc)
tied Equal h = refl
tied Greater h = absurd (cc)

-- the same test from the other side
tied_reverse : (p : Ordering) → is_eq (ordering_reverse p) ≡ is_eq p
tied_reverse Less = refl
tied_reverse Equal = refl
tied_reverse Greater = refl

-- a key is tied with another as the other with it
swapped : {K : Type 0} (cmp : K → K → Ordering) (o : IsTotalOrder cmp) (x y : K) → is_eq (cmp x y) ≡ is_eq (cmp y x)
swapped cmp o x y = ap is_eq (o.antisymm x y) ∙ tied_reverse (cmp y x)

module _ {K V : Type 0} (cmp : K → K → Ordering) (eq : K → K → Bool) (o : IsTotalOrder cmp) (s : IsExact cmp) (ties : (x y : K) → eq x y ≡ is_eq (cmp x y)) where
  -- by the place of the key beside the first, and by what the table has for that
  found_past : (k q : K) (ks : List K) (es : List (K × V)) (p : Ordering) (r : Option V) → cmp q k ≡ p → lookup (eq k) es ≡ r → value_at cmp (entries_of eq ks es) q ≡ cond (list_any (is_at (cmp q)) ks) (lookup (eq q) es) None → value_at cmp (found_before k r (entries_of eq ks es)) q ≡ cond (list_any (is_at (cmp q)) (k ∷ ks)) (lookup (eq q) es) None
  found_past k q ks es Less None a f h = simp a h
  found_past k q ks es Greater None a f h = simp a h
  found_past k q ks es Less (Some v) a f h = simp a h
  found_past k q ks es Greater (Some v) a f h = simp a h
  found_past k q ks es Equal (Some v) a f h =
      let is : lookup (eq q) es ≡ Some v = ap (λ x. lookup (eq x) es) (s q k a) ∙ f in
      simp a (sym is)
  found_past k q ks es Equal None a f h =
      let is : lookup (eq q) es ≡ None = ap (λ x. lookup (eq x) es) (s q k a) ∙ f in
      let none : cond (list_any (is_at (cmp q)) ks) (lookup (eq q) es) None ≡ None = nothing_either_way (list_any (is_at (cmp q)) ks) (lookup (eq q) es) is in
      simp a (h ∙ none ∙ sym is)

  -- the list has at a key what the table has, if the key is among those in order
  found_among : (ks : List K) (es : List (K × V)) (q : K) → value_at cmp (entries_of eq ks es) q ≡ cond (list_any (is_at (cmp q)) ks) (lookup (eq q) es) None
  found_among [] es q = refl
  found_among (k ∷ ks) es q = found_past k q ks es (cmp q k) (lookup (eq k) es) refl refl (found_among ks es q)

  -- by whether the key is among them
  found_by : (b : Bool) (r : Option V) → is_some r ≡ b → cond b r None ≡ r
  found_by true r h = refl
  found_by false r h = sym (none_from r h)

  -- the list has at a key what the table has
  pub value_found : (ks : List K) (es : List (K × V)) → IsHashed cmp eq ks es → (q : K) → value_at cmp (entries_of eq ks es) q ≡ lookup (eq q) es
  value_found ks es h q = found_among ks es q ∙ found_by (list_any (is_at (cmp q)) ks) (lookup (eq q) es) (h.1 q)

  -- an entry more behind a key, or none
  below_found : (j k : K) (r : Option V) (es : List (K × V)) → cmp j k ≡ Less → IsBelow cmp j es → IsBelow cmp j (found_before k r es)
  below_found j k None es b h = h
  below_found j k (Some v) es b h = (b, h)

  -- what is below the keys is below their entries
  below_entries : (j : K) (ks : List K) (es : List (K × V)) → AllByRecursion (λ y. cmp j y ≡ Less) ks → IsBelow cmp j (entries_of eq ks es)
  below_entries j [] es h = tt
  below_entries j (k ∷ ks) es h = below_found j k (lookup (eq k) es) (entries_of eq ks es) h.0 (below_entries j ks es h.1)

  -- an entry in front, or none
  ascending_found : (k : K) (r : Option V) (es : List (K × V)) → IsBelow cmp k es → IsAscending cmp es → IsAscending cmp (found_before k r es)
  ascending_found k None es b h = h
  ascending_found k (Some v) es b h = (b, h)

  -- the entries ascend as the keys do
  ascending_keys : (ks : List K) (es : List (K × V)) → IsStrictlySortedBy cmp ks → IsAscending cmp (entries_of eq ks es)
  unfolding IsStrictlySortedBy
  ascending_keys [] es h = tt
  ascending_keys (k ∷ ks) es h = ascending_found k (lookup (eq k) es) (entries_of eq ks es) (below_entries k ks es h.0) (ascending_keys ks es h.1)

  -- the entries of a map ascend
  pub ascending_entries : (ks : List K) (es : List (K × V)) → IsHashed cmp eq ks es → IsAscending cmp (entries_of eq ks es)
  ascending_entries ks es h = ascending_keys ks es h.0

  -- keys that are all among those for which the table has a value
  found_each : (ks : List K) (es : List (K × V)) → ((q : K) → list_any (is_at (cmp q)) ks ≡ true → is_some (lookup (eq q) es) ≡ true) → AreFound eq es ks
  found_each [] es h = tt
  found_each (k ∷ ks) es h =
      let own : cmp k k ≡ Equal = tied_itself o k in
      (h k (simp own), found_each ks es (λ q a. h q (behind (is_eq (cmp q k)) (list_any (is_at (cmp q)) ks) a)))

  -- each key of a map is found
  pub are_found : (ks : List K) (es : List (K × V)) → IsHashed cmp eq ks es → AreFound eq es ks
  are_found ks es h = found_each ks es (λ q a. h.1 q ∙ a)

  -- one entry more for a key that is found
  length_found : (k : K) (r : Option V) (es : List (K × V)) → is_some r ≡ true → length (found_before k r es) ≡ suc (length es)
  length_found k (Some v) es h = refl
  length_found k None es h = absurd (cc)

  -- as many entries as keys that are found
  length_each : (ks : List K) (es : List (K × V)) → AreFound eq es ks → length (entries_of eq ks es) ≡ length ks
  length_each [] es h = refl
  length_each (k ∷ ks) es h = length_found k (lookup (eq k) es) (entries_of eq ks es) h.0 ∙ ap (λ n. suc n) (length_each ks es h.1)

  -- a map has as many entries as keys
  pub length_entries : (ks : List K) (es : List (K × V)) → IsHashed cmp eq ks es → length (entries_of eq ks es) ≡ length ks
  length_entries ks es h = length_each ks es (are_found ks es h)

  -- by whether the first entry has the key
  valid_found : (P : V → Type 0) (u x : V) (rest : Option V) (b : Bool) → P u → (rest ≡ Some x → P x) → cond b (Some u) rest ≡ Some x → P x
  valid_found P u x rest true p i h = subst P (ap (λ r. unwrap_or r x) h) p
  valid_found P u x rest false p i h = i h

  -- the value at a key is valid
  valid_at : (P : V → Type 0) (es : List (K × V)) (k : K) (x : V) → AllValues P es → value_at cmp es k ≡ Some x → P x
  valid_at P [] k x h there = absurd (cc)
  valid_at P (e ∷ es) k x h there = valid_found P e.1 x (value_at cmp es k) (is_eq (cmp k e.0)) h.0 (valid_at P es k x h.1) there

  -- keys ascend after an exchange
  ascending_placed : (es : List (K × V)) (k : K) (w : Option V) → IsAscending cmp es → IsAscending cmp (map_with cmp es k w)
  ascending_placed es k None h = rises_removed cmp (is_at (cmp k)) es h
  ascending_placed es k (Some v) h = subst (λ m. IsAscending cmp m) (put_is_over cmp k v es) (rises cmp later o es k v h)

  -- values are valid after an exchange
  valid_placed : (P : V → Type 0) (es : List (K × V)) (k : K) (w : Option V) → IfSome w P → AllValues P es → AllValues P (map_with cmp es k w)
  valid_placed P es k None p h = valid_removed cmp (is_at (cmp k)) P es h
  valid_placed P es k (Some v) p h = subst (λ m. AllValues P m) (put_is_over cmp k v es) (all_valid cmp later o P (λ a b q r. r) es k v p h)

  -- a value joined into what stands at a key is put there
  put_is_joined : (join : V → V → V) (es : List (K × V)) (k : K) (x v : V) → IsAscending cmp es → value_at cmp es k ≡ Some x → insert_entry cmp es k (join x v) ≡ put cmp join es k v
  put_is_joined join es k x v h there = same_lookups cmp o s (insert_entry cmp es k (join x v)) (put cmp join es k v) (ascending_placed es k (Some (join x v)) h) (rises cmp join o es k v h) (λ q. value_placed cmp o k es (Some (join x v)) q h ∙ sym (value_put cmp join o es k v q h ∙ ap (λ r. if is_eq (cmp q k) then Some (joined_onto join r v) else value_at cmp es q) there))

  -- what both the keys and the table become when what stands at a key is exchanged
  module _ (ks ls : List K) (es fs : List (K × V)) (k : K) (w : Option V) (was : IsHashed cmp eq ks es) (sorted : IsStrictlySortedBy cmp ls) (values : (q : K) → lookup (eq q) fs ≡ cond (eq k q) w (lookup (eq q) es)) (keys : (q : K) → list_any (is_at (cmp q)) ls ≡ cond (is_at (cmp k) q) (is_some w) (list_any (is_at (cmp q)) ks)) where
    -- they have the same keys
    hashed_after : IsHashed cmp eq ls fs
    hashed_after = (sorted, λ q. ap is_some (values q) ∙ some_either_way (eq k q) (lookup (eq q) es) w ∙ ap (λ b. cond b (is_some w) (is_some (lookup (eq q) es))) (ties k q) ∙ ap (λ b. cond (is_eq (cmp k q)) (is_some w) b) (was.1 q) ∙ sym (keys q))

    -- the table answers as the list does
    values_listed : (q : K) → cond (eq k q) w (lookup (eq q) es) ≡ (if is_eq (cmp q k) then w else value_at cmp (entries_of eq ks es) q)
    values_listed q = ap (λ b. cond b w (lookup (eq q) es)) (ties k q ∙ swapped cmp o k q) ∙ ap (λ r. cond (is_eq (cmp q k)) w r) (sym (value_found ks es was q))

    -- the list is the exchange
    pub placed_after : entries_of eq ls fs ≡ map_with cmp (entries_of eq ks es) k w
    placed_after = same_lookups cmp o s (entries_of eq ls fs) (map_with cmp (entries_of eq ks es) k w) (ascending_entries ls fs hashed_after) (ascending_placed (entries_of eq ks es) k w (ascending_entries ks es was)) (λ q. value_found ls fs hashed_after q ∙ values q ∙ values_listed q ∙ sym (value_placed cmp o k (entries_of eq ks es) w q (ascending_entries ks es was)))

    -- it keeps the map in order and valid
    pub placed_keeps : (P : V → Type 0) → IfSome w P → AllValues P (entries_of eq ks es) → IsHashed cmp eq ls fs × AllValues P (entries_of eq ls fs)
    placed_keeps P p h = (hashed_after, subst (λ m. AllValues P m) (sym placed_after) (valid_placed P (entries_of eq ks es) k w p h))

  -- a value written through a slot of the table
  module _ {S : Type 0} (m n : HashMap K V S) (ks : List K) (k : K) (x w : V) (was : IsHashed cmp eq ks m.entries) (found : Some x ≡ lookup (eq k) m.entries) (writes : WritesThrough eq (eq k) m w n) where
    -- the slot's key is among the keys, by whether it is the one asked for
    stands_by : (q : K) (b : Bool) → is_eq (cmp k q) ≡ b → list_any (is_at (cmp q)) ks ≡ cond b true (list_any (is_at (cmp q)) ks)
    stands_by q false a = refl
    stands_by q true a = sym (was.1 q) ∙ ap (λ y. is_some (lookup (eq y) m.entries)) (sym (s k q (tied (cmp k q) a))) ∙ ap is_some (sym found)

    -- the table after it
    written_values : (q : K) → lookup (eq q) n.entries ≡ cond (eq k q) (Some w) (lookup (eq q) m.entries)
    written_values = (writes.3 (ap is_some (sym found))).0

    -- the list after it
    pub written_after : entries_of eq ks n.entries ≡ insert_entry cmp (entries_of eq ks m.entries) k w
    written_after = placed_after ks ks m.entries n.entries k (Some w) was was.0 written_values (λ q. stands_by q (is_eq (cmp k q)) refl)

    -- it keeps the map in order and valid
    pub written_keeps : (P : V → Type 0) → P w → AllValues P (entries_of eq ks m.entries) → IsHashed cmp eq ks n.entries × AllValues P (entries_of eq ks n.entries)
    written_keeps = placed_keeps ks ks m.entries n.entries k (Some w) was was.0 written_values (λ q. stands_by q (is_eq (cmp k q)) refl)

    -- what was there, written again, changes nothing
    same_after : w ≡ x → n.entries ≡ m.entries
    same_after h = writes.0 ∙ set_value_same (eq k) m.entries w (sym found ∙ ap (λ y. Some y) (sym h))

    -- what the slot held stood at the key
    stood : value_at cmp (entries_of eq ks m.entries) k ≡ Some x
    stood = value_found ks m.entries was k ∙ sym found

    module _ (join : V → V → V) (v : V) where
      -- a join in place is the put
      joined_after : w ≡ join x v → entries_of eq ks n.entries ≡ put cmp join (entries_of eq ks m.entries) k v
      joined_after h = written_after ∙ ap (insert_entry cmp (entries_of eq ks m.entries) k) h ∙ put_is_joined join (entries_of eq ks m.entries) k x v (ascending_entries ks m.entries was) stood

      -- a join in place is the put, if it isn't refused
      pub slot_joined : {A B : Type 0} (ms : List (K × V)) (is : entries_of eq ks m.entries ≡ ms) (r : Result A B) → IfOk r (λ _. w ≡ join x v) → IfOk r (λ _. entries_of eq ks n.entries ≡ put cmp join ms k v)
      slot_joined ms is (Ok t) h = joined_after h ∙ ap (λ l. put cmp join l k v) is
      slot_joined ms is (Err e) h = tt

      -- a refused join changes nothing
      pub slot_refused : {A B : Type 0} (ms : List (K × V)) (is : entries_of eq ks m.entries ≡ ms) (r : Result A B) → OnErr r (w ≡ x) → OnErr r (entries_of eq ks n.entries ≡ ms)
      slot_refused ms is (Ok t) h = tt
      slot_refused ms is (Err e) h = ap (entries_of eq ks) (same_after h) ∙ is

      -- a join in place keeps the map in order and valid
      pub slot_keeps : {A B : Type 0} (P : V → Type 0) (closed : (a b : V) → P a → P b → P (join a b)) (r : Result A B) → P v → AllValues P (entries_of eq ks m.entries) → IfOk r (λ _. w ≡ join x v) → OnErr r (w ≡ x) → IsHashed cmp eq ks n.entries × AllValues P (entries_of eq ks n.entries)
      slot_keeps P closed (Ok t) p inv h f = written_keeps P (subst P (sym h) (closed x v (valid_at P (entries_of eq ks m.entries) k x inv stood) p)) inv
      slot_keeps P closed (Err e) p inv h f = subst (λ l. IsHashed cmp eq ks l × AllValues P (entries_of eq ks l)) (sym (same_after f)) (was, inv)

  -- nothing was found at a key, and the table stays
  module _ {S : Type 0} (m n : HashMap K V S) (ks : List K) (ms : List (K × V)) (k : K) (was : IsHashed cmp eq ks m.entries) (none : None ≡ lookup (eq k) m.entries) (stays : n ≡ m) (is : entries_of eq ks m.entries ≡ ms) where
    -- the map stays
    still : entries_of eq ks n.entries ≡ ms
    still = ap (λ l. entries_of eq ks l.entries) stays ∙ is

    -- nothing stood at the key
    pub was_absent : value_at cmp ms k ≡ None
    was_absent = ap (λ l. value_at cmp l k) (sym is) ∙ value_found ks m.entries was k ∙ sym none

    -- nothing stands there
    pub still_absent : value_at cmp (entries_of eq ks n.entries) k ≡ None
    still_absent = ap (λ l. value_at cmp l k) still ∙ was_absent

    -- an insert there is the put
    pub fresh_put : (join : V → V → V) (v : V) → insert_entry cmp (entries_of eq ks n.entries) k v ≡ put cmp join ms k v
    fresh_put join v = ap (λ l. insert_entry cmp l k v) still ∙ put_is_new cmp k join v ms was_absent

  -- a new key was put among the others
  module _ (ks ns : List K) (es ms : List (K × V)) (j k : K) (was : IsHashed cmp eq ks es) (is : entries_of eq ks es ≡ ms) (copied : j ≡ k) (put_in : (q : K) → list_any (is_at (cmp q)) ns ≡ cond (is_at (cmp j) q) true (list_any (is_at (cmp q)) ks)) where
    -- it is the one that it was copied from
    put_in_copied : (q : K) → list_any (is_at (cmp q)) ns ≡ cond (is_at (cmp k) q) true (list_any (is_at (cmp q)) ks)
    put_in_copied q = put_in q ∙ ap (λ y. cond (is_eq (cmp y q)) true (list_any (is_at (cmp q)) ks)) copied

    -- and its value into the table
    module _ (fs : List (K × V)) (v : V) (sorted : IsStrictlySortedBy cmp ns) (values : (q : K) → lookup (eq q) fs ≡ cond (eq k q) (Some v) (lookup (eq q) es)) where
      -- the map has one entry more
      pub inserted_after : entries_of eq ns fs ≡ insert_entry cmp ms k v
      inserted_after = placed_after ks ns es fs k (Some v) was sorted values put_in_copied ∙ ap (λ l. insert_entry cmp l k v) is

      -- it is in order and valid
      pub inserted_keeps : (P : V → Type 0) → P v → AllValues P (entries_of eq ks es) → IsHashed cmp eq ns fs × AllValues P (entries_of eq ns fs)
      inserted_keeps = placed_keeps ks ns es fs k (Some v) was sorted values put_in_copied

    -- and was taken out again
    module _ (ls : List K) (fs : List (K × V)) (l : K) (absent : value_at cmp ms k ≡ None) (sorted : IsStrictlySortedBy cmp ls) (same : fs ≡ es) (returned : l ≡ k) (taken_out : (q : K) → list_any (is_at (cmp q)) ls ≡ cond (is_at (cmp l) q) false (list_any (is_at (cmp q)) ns)) where
      -- the table has nothing at the key
      none_found : lookup (eq k) es ≡ None
      none_found = sym (value_found ks es was k) ∙ ap (λ m. value_at cmp m k) is ∙ absent

      -- by whether it is the key asked for
      back_by : (q : K) (b : Bool) → is_eq (cmp k q) ≡ b → cond b false (cond b true (list_any (is_at (cmp q)) ks)) ≡ is_some (lookup (eq q) es)
      back_by q true a = sym (ap is_some (ap (λ y. lookup (eq y) es) (sym (s k q (tied (cmp k q) a))) ∙ none_found))
      back_by q false a = sym (was.1 q)

      -- the keys are those of the table
      back_hashed : IsHashed cmp eq ls es
      back_hashed = (sorted, λ q. sym (taken_out q ∙ ap (λ y. cond (is_eq (cmp y q)) false (list_any (is_at (cmp q)) ns)) returned ∙ ap (λ b. cond (is_eq (cmp k q)) false b) (put_in_copied q) ∙ back_by q (is_eq (cmp k q)) refl))

      -- the list is what it was
      back_listed : entries_of eq ls es ≡ entries_of eq ks es
      back_listed = same_lookups cmp o s (entries_of eq ls es) (entries_of eq ks es) (ascending_entries ls es back_hashed) (ascending_entries ks es was) (λ q. value_found ls es back_hashed q ∙ sym (value_found ks es was q))

      -- the map is what it was
      pub back_same : entries_of eq ls fs ≡ ms
      back_same = ap (entries_of eq ls) same ∙ back_listed ∙ is

      -- it is in order and valid
      pub back_keeps : (P : V → Type 0) → AllValues P (entries_of eq ks es) → IsHashed cmp eq ls fs × AllValues P (entries_of eq ls fs)
      back_keeps P h = subst (λ y. IsHashed cmp eq ls y × AllValues P (entries_of eq ls y)) (sym same) (back_hashed, subst (λ m. AllValues P m) (sym back_listed) h)
