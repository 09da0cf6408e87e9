-- The facts of a map, whose entries have facts under their keys: a join of maps keeps what the joins of their values keep.
use Rattle.std.proofs.Common.{◌≡◌, Bool, if◌then◌else◌, List, [], ◌∷◌, ◌++◌, Option, Some, None, inl, inr, refl, sym, ap, ◌∙◌, subst}
use Rattle.std.specs.declared.cmp.Ordering.{Ordering}
use Rattle.std.specs.declared.cmp.Ordering.TheVariants.{Less, Equal, Greater}
use Rattle.std.specs.Ordering.{is_eq, ordering_reverse}
use Rattle.std.specs.Cmp.{tied_itself}
use Rattle.std.specs.List.{flat_map}
use Rattle.pcrf_values.specs.Sets.{In, Same, maximal}
use Rattle.pcrf_values.proofs.Plain.{some_same, none_some}
use Rattle.pcrf_values.proofs.OrderLaws.{IsRanked}
use Rattle.pcrf_values.proofs.SetLaws.{In-left, In-cases, Same-itself, Same-through, maximal-Same}
use Rattle.pcrf_values.proofs.PartLaws.{IsStrict, Keeps, In-flat_map, flat_map-In, IsMadeOf, IsRising, parts_kept, made_of_both}
use Rattle.lattice_core.specs.Entries.{IsBelow, IsAscending, AllValues, put, put_all, map_joined, value_at}
use Rattle.lattice_core.specs.Lookups.{option_joined}
use Rattle.lattice_core.specs.laws.Maps.{rises}
use Rattle.lattice_core.proofs.Lookups.{value_joined}

-- what may stand at a key has
abbrev pub option_facts : {A V : Type 0} → (V → List A) → Option V → List A
option_facts facts None = []
option_facts facts (Some v) = facts v

-- what may stand is valid
abbrev pub option_valid : {V : Type 0} → (V → Type 0) → Option V → Type 0
option_valid valid None = Unit {0}
option_valid valid (Some v) = valid v

module _ {A V : Type 0} {below : A → A → Bool} {valid : V → Type 0} {join : V → V → V} {facts : V → List A} (strict : IsStrict below) (keeps : Keeps below valid join facts) where
  -- of what may stand in either
  pub option_both : (x y : Option V) → option_valid valid x → option_valid valid y → Same (option_facts facts (option_joined join x y)) (maximal below (option_facts facts x ++ option_facts facts y))
  option_both None None v w = Same-itself []
  option_both None (Some y) v w = keeps.own y w
  option_both (Some x) None v w = Same-through (facts x) (maximal below (facts x)) (maximal below (facts x ++ [])) (keeps.own x v) (maximal-Same below strict.irr strict.trans (facts x) (facts x ++ []) (λ a. (λ i. In-left a (facts x) [] i, λ i. elim (In-cases a (facts x) [] i) [ inl j ↦ j | inr j ↦ absurd j ])))
  option_both (Some x) (Some y) v w = keeps.both x y v w

  -- by itself
  pub option_own : (x : Option V) → option_valid valid x → Same (option_facts facts x) (maximal below (option_facts facts x))
  option_own None v = Same-itself []
  option_own (Some x) v = keeps.own x v

module _ {K V : Type 0} {cmp : K → K → Ordering} (o : IsRanked cmp) where
  -- a key below all is below each
  pub below_member : (k : K) (e : K × V) (es : List (K × V)) → IsBelow cmp k es → In e es → cmp k e.0 ≡ Less
  below_member k e [] b i = absurd i
  below_member k e (n ∷ es) b (inl q) = subst (λ (z : K × V). cmp k z.0 ≡ Less) (sym q) b.0
  below_member k e (n ∷ es) b (inr i) = below_member k e es b.1 i

  -- an entry answers for its key
  pub entry_found : (e : K × V) (es : List (K × V)) → IsAscending cmp es → In e es → value_at cmp es e.0 ≡ Some e.1
  entry_found e [] s i = absurd i
  entry_found e (n ∷ es) s (inl q) = rw (sym q) (let own : cmp e.0 e.0 ≡ Equal = tied_itself o.total e.0 in simp own)
  entry_found e (n ∷ es) s (inr i) =
      let past : cmp e.0 n.0 ≡ Greater = o.total.antisymm e.0 n.0 ∙ ap ordering_reverse (below_member n.0 e es s.0 i) in
      simp past (entry_found e es s.1 i)

  -- by the place of the key beside the first entry
  first_or_rest : (k : K) (v : V) (n : K × V) (es : List (K × V)) (r : Ordering) → cmp k n.0 ≡ r → (if is_eq r then Some n.1 else value_at cmp es k) ≡ Some v → (value_at cmp es k ≡ Some v → In (k, v) es) → In (k, v) (n ∷ es)
  first_or_rest k v n es Less c h more = inr (more h)
  first_or_rest k v n es Greater c h more = inr (more h)
  first_or_rest k v n es Equal c h more =
      let key : k ≡ n.0 = o.same k n.0 c in
      let value : v ≡ n.1 = some_same v n.1 (sym h) in
      inl (λ i. (key i, value i))

  -- what a key is answered is an entry
  pub found_entry : (k : K) (v : V) (es : List (K × V)) → value_at cmp es k ≡ Some v → In (k, v) es
  found_entry k v [] h = none_some v h
  found_entry k v (n ∷ es) h = first_or_rest k v n es (cmp k n.0) refl h (found_entry k v es)

  -- what may stand at a key is valid
  valid_past : (valid : V → Type 0) (k : K) (n : K × V) (es : List (K × V)) (r : Ordering) → valid n.1 → option_valid valid (value_at cmp es k) → option_valid valid (if is_eq r then Some n.1 else value_at cmp es k)
  valid_past valid k n es Less v h = h
  valid_past valid k n es Greater v h = h
  valid_past valid k n es Equal v h = v

  -- where all values are
  pub valid_at : (valid : V → Type 0) (k : K) (es : List (K × V)) → AllValues valid es → option_valid valid (value_at cmp es k)
  valid_at valid k [] h = tt
  valid_at valid k (n ∷ es) h = valid_past valid k n es (cmp k n.0) h.0 (valid_at valid k es h.1)

  module _ (join : V → V → V) where
    -- keys rise after all puts
    all_rise : (es ms : List (K × V)) → IsAscending cmp ms → IsAscending cmp (put_all cmp join ms es)
    all_rise [] ms h = h
    all_rise (e ∷ es) ms h = all_rise es (put cmp join ms e.0 e.1) (rises cmp join o.total ms e.0 e.1 h)

    -- and after a join
    pub joined_rises : (es gs : List (K × V)) → IsAscending cmp (map_joined cmp join es gs)
    joined_rises es gs = all_rise gs (put_all cmp join [] es) (all_rise es [] tt)

-- ---- the parts of a map
module _ {A K L V : Type 0} {cmp : K → K → Ordering} {key : A → Option L} (o : IsRanked cmp) (under : K → L) (sub : K → V → List A) (sub_keyed : (k : K) (v : V) (a : A) → In a (sub k v) → key a ≡ Some (under k)) where
  -- what all entries have
  abbrev pub map_facts : List (K × V) → List A
  map_facts = flat_map (λ e. sub e.0 e.1)

  -- an entry's list is that of what its key is answered
  pub map_into : (es : List (K × V)) → IsAscending cmp es → (a : A) → In a (map_facts es) → (k : K) × In a (option_facts (sub k) (value_at cmp es k))
  map_into es s a i =
      let r = flat_map-In (λ (e : K × V). sub e.0 e.1) a es i in
      (r.0.0, subst (λ (x : Option V). In a (option_facts (sub r.0.0) x)) (sym (entry_found o r.0 es s r.1)) r.2)

  -- and back
  pub map_back : (es : List (K × V)) (k : K) (a : A) → In a (option_facts (sub k) (value_at cmp es k)) → In a (map_facts es)
  map_back es k a i = by_answer (value_at cmp es k) refl i
    where
      by_answer : (x : Option V) → value_at cmp es k ≡ x → In a (option_facts (sub k) x) → In a (map_facts es)
      by_answer None h i = absurd i
      by_answer (Some v) h i = In-flat_map (λ (e : K × V). sub e.0 e.1) (k, v) a es (found_entry o k v es h) i

  -- under the key
  pub map_keyed : (es : List (K × V)) (k : K) (a : A) → In a (option_facts (sub k) (value_at cmp es k)) → key a ≡ Some (under k)
  map_keyed es k a i = by_answer (value_at cmp es k) i
    where
      by_answer : (x : Option V) → In a (option_facts (sub k) x) → key a ≡ Some (under k)
      by_answer None i = absurd i
      by_answer (Some v) i = sub_keyed k v a i

module _ {A K V : Type 0} {cmp : K → K → Ordering} {below : A → A → Bool} {key : A → Option K} {valid : V → Type 0} {join : V → V → V} (strict : IsStrict below) (rising : IsRising below key) (o : IsRanked cmp) (sub : K → V → List A) (sub_keyed : (k : K) (v : V) (a : A) → In a (sub k v) → key a ≡ Some k) (keeps : (k : K) → Keeps below valid join (sub k)) where
  -- a map is made of the parts of its keys
  pub map_made : (es : List (K × V)) → IsAscending cmp es → IsMadeOf key (flat_map (λ e. sub e.0 e.1) es) (λ k. option_facts (sub k) (value_at cmp es k))
  map_made es s = record { into = map_into o (λ k. k) sub sub_keyed es s; back = map_back o (λ k. k) sub sub_keyed es; keyed = map_keyed o (λ k. k) sub sub_keyed es }

  -- a map keeps where its values do
  pub map_keeps : Keeps below (λ es. IsAscending cmp es × AllValues valid es) (map_joined cmp join) (λ es. flat_map (λ e. sub e.0 e.1) es)
  map_keeps = record {
    both = λ es gs v w.
        parts_kept strict rising (flat_map (λ e. sub e.0 e.1) es ++ flat_map (λ e. sub e.0 e.1) gs) (flat_map (λ e. sub e.0 e.1) (map_joined cmp join es gs)) (λ k. option_facts (sub k) (value_at cmp es k) ++ option_facts (sub k) (value_at cmp gs k)) (λ k. option_facts (sub k) (value_at cmp (map_joined cmp join es gs) k))
        (made_of_both (flat_map (λ e. sub e.0 e.1) es) (flat_map (λ e. sub e.0 e.1) gs) (λ k. option_facts (sub k) (value_at cmp es k)) (λ k. option_facts (sub k) (value_at cmp gs k)) (map_made es v.0) (map_made gs w.0))
        (map_made (map_joined cmp join es gs) (joined_rises o join es gs))
        (λ k. subst (λ (x : Option V). Same (option_facts (sub k) x) (maximal below (option_facts (sub k) (value_at cmp es k) ++ option_facts (sub k) (value_at cmp gs k)))) (sym (value_joined cmp join o.total es gs k v.0 w.0))
        (option_both strict (keeps k) (value_at cmp es k) (value_at cmp gs k) (valid_at o valid k es v.1) (valid_at o valid k gs w.1)));
    own = λ es v.
        parts_kept strict rising (flat_map (λ e. sub e.0 e.1) es) (flat_map (λ e. sub e.0 e.1) es) (λ k. option_facts (sub k) (value_at cmp es k)) (λ k. option_facts (sub k) (value_at cmp es k)) (map_made es v.0) (map_made es v.0)
        (λ k. option_own strict (keeps k) (value_at cmp es k) (valid_at o valid k es v.1));
  }
