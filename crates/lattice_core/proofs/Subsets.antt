-- Tests that tell whether one value says all that another says, and of maps.
use Rattle.std.proofs.Common.{◌≡◌, Bool, true, false, ◌&&◌, List, [], ◌∷◌, Option, Some, None, inl, inr, refl, sym, subst}
use Rattle.std.specs.Prelude.{Decides}
use Rattle.std.specs.declared.cmp.Ordering.{Ordering}
use Rattle.std.specs.List.{list_all}
use Rattle.std.proofs.lemmas.Bool.Decides.{Decides-like}
use Rattle.pcrf_values.specs.Sets.{In}
use Rattle.pcrf_values.proofs.OrderLaws.{IsRanked}
use Rattle.pcrf_values.proofs.PartLaws.{IsMadeOf, part_at}
use Rattle.pcrf_values.proofs.Plain.{clash}
use Rattle.lattice_core.specs.Entries.{IsAscending, AllValues, value_at}
use Rattle.lattice_core.specs.Subsets.{IsSubset, subset_at, map_subset, map_empty}
use Rattle.lattice_core.proofs.MapParts.{option_facts, option_valid, entry_found, found_entry, valid_at}

-- The tests tell whether the facts of one valid value are among those of another, and whether there are none.
pub record Tells {A V : Type 0} (valid : V → Type 0) (subset : V → V → Bool) (empty : V → Bool) (facts : V → List A) : Type 0 where
  pub some : (v w : V) → valid v → valid w → Decides (subset v w) (IsSubset (facts v) (facts w))
  pub none : (v : V) → valid v → Decides (empty v) (IsSubset (facts v) [])

-- ---- tests
-- a false test decides what can't be
pub never : {P : Type 0} → (P → ⊥) → Decides false P
never h = (λ e. clash false e refl, λ p. absurd (h p))

-- and a true one what is
pub always : {P : Type 0} → P → Decides true P
always p = (λ _. p, λ _. refl)

-- a member more
one_more : {X : Type 0} (P : X → Type 0) (x : X) (xs : List X) → P x → ((y : X) → In y xs → P y) → (y : X) → In y (x ∷ xs) → P y
one_more P x xs a h y (inl e) = subst P (sym e) a
one_more P x xs a h y (inr i) = h y i

-- by the test of the first
by_first : {X : Type 0} (P : X → Type 0) (x : X) (xs : List X) (b c : Bool) → Decides b (P x) → Decides c ((y : X) → In y xs → P y) → Decides (b && c) ((y : X) → In y (x ∷ xs) → P y)
by_first P x xs true c d rest = Decides-like c (one_more P x xs (d.0 refl)) (λ f y i. f y (inr i)) rest
by_first P x xs false c d rest = never (λ f. clash false (d.1 (f x (inl refl))) refl)

-- a test of all members tells of each
pub all_decides : {X : Type 0} (p : X → Bool) (P : X → Type 0) (xs : List X) → ((x : X) → In x xs → Decides (p x) (P x)) → Decides (list_all p xs) ((x : X) → In x xs → P x)
all_decides p P [] h = always (λ x i. absurd i)
all_decides p P (x ∷ xs) h = by_first P x xs (p x) (list_all p xs) (h x (inl refl)) (all_decides p P xs (λ y i. h y (inr i)))

-- ---- parts under keys
-- the facts of one are among those of the other where each part is
pub by_parts : {A K : Type 0} {key : A → Option K} (us ws : List A) (pu pw : K → List A) → IsMadeOf key us pu → IsMadeOf key ws pw → ((k : K) → IsSubset (pu k) (pw k)) → IsSubset us ws
by_parts us ws pu pw mu mw h a i = let r = mu.into a i in mw.back r.0 a (h r.0 a r.1)

-- and only there
pub to_parts : {A K : Type 0} {key : A → Option K} (us ws : List A) (pu pw : K → List A) → IsMadeOf key us pu → IsMadeOf key ws pw → IsSubset us ws → (k : K) → IsSubset (pu k) (pw k)
to_parts us ws pu pw mu mw h k a i = (part_at mw k a (mu.keyed k a i)).0 (h a (mu.back k a i))

-- ---- maps
module _ {A V : Type 0} {valid : V → Type 0} {subset : V → V → Bool} {empty : V → Bool} {facts : V → List A} (tells : Tells valid subset empty facts) where
  -- a value beside what may stand at its key
  pub tells_at : (v : V) (x : Option V) → valid v → option_valid valid x → Decides (subset_at subset empty v x) (IsSubset (facts v) (option_facts facts x))
  tells_at v None h k = tells.none v h
  tells_at v (Some w) h k = tells.some v w h k

module _ {A K V : Type 0} {cmp : K → K → Ordering} {valid : V → Type 0} {subset : V → V → Bool} {empty : V → Bool} (o : IsRanked cmp) (sub : K → V → List A) (tells : (k : K) → Tells valid subset empty (sub k)) where
  -- what an entry has is what its key is answered
  at_key : (P : List A → Type 0) (e : K × V) (es : List (K × V)) → IsAscending cmp es → In e es → P (option_facts (sub e.0) (value_at cmp es e.0)) → P (sub e.0 e.1)
  at_key P e es s i h = subst (λ (x : Option V). P (option_facts (sub e.0) x)) (entry_found o e es s i) h

  -- and what a key is answered is what an entry has
  at_entry : (P : K → List A → Type 0) (es : List (K × V)) → ((k : K) → P k []) → ((e : K × V) → In e es → P e.0 (sub e.0 e.1)) → (k : K) → P k (option_facts (sub k) (value_at cmp es k))
  at_entry P es none h k = by_answer (value_at cmp es k) refl
    where
      by_answer : (x : Option V) → value_at cmp es k ≡ x → P k (option_facts (sub k) x)
      by_answer None q = none k
      by_answer (Some v) q = h (k, v) (found_entry o k v es q)

  -- values of a valid map are valid
  valid_of : (e : K × V) (es : List (K × V)) → IsAscending cmp es → AllValues valid es → In e es → valid e.1
  valid_of e es s v i = subst (option_valid valid) (entry_found o e es s i) (valid_at o valid e.0 es v)

  -- The facts at each key of a map are among those at that key of another.
  pub map_tells : (xs ys : List (K × V)) → IsAscending cmp xs → AllValues valid xs → AllValues valid ys
      → Decides (map_subset cmp subset empty xs ys) ((k : K) → IsSubset (option_facts (sub k) (value_at cmp xs k)) (option_facts (sub k) (value_at cmp ys k)))
  map_tells xs ys s v w = Decides-like (map_subset cmp subset empty xs ys)
      (λ h. at_entry (λ k l. IsSubset l (option_facts (sub k) (value_at cmp ys k))) xs (λ k a i. absurd i) h)
      (λ h e i. at_key (λ l. IsSubset l (option_facts (sub e.0) (value_at cmp ys e.0))) e xs s i (h e.0))
      (all_decides (λ e. subset_at subset empty e.1 (value_at cmp ys e.0)) (λ e. IsSubset (sub e.0 e.1) (option_facts (sub e.0) (value_at cmp ys e.0))) xs
      (λ e i. tells_at (tells e.0) e.1 (value_at cmp ys e.0) (valid_of e xs s v i) (valid_at o valid e.0 ys w)))
