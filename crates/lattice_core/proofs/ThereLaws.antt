-- Fields put over what stands where they do.
use Rattle.std.proofs.Common.{◌≡◌, ℕ, zero, suc, Bool, true, false, List, [], ◌∷◌, ◌++◌, get_or, map, take, drop, set, ◌⊎◌, ◌||◌, inl, inr, refl, sym, ap, ◌∙◌, subst, Less}
use Rattle.std.proofs.lemmas.List.{map-append}
use Rattle.std.specs.Ordering.{is_eq, ordering_reverse}
use Rattle.std.specs.List.{list_any}
use Rattle.pcrf_values.specs.Sets.{In}
use Rattle.pcrf_values.proofs.SetLaws.{In-cases, any-none}
use Rattle.pcrf_values.specs.Places.{Position, position_cmp}
use Rattle.pcrf_values.specs.Facts.{Fact, position}
use Rattle.pcrf_values.proofs.FactLaws.{position_ranked}
use Rattle.lattice_core.specs.Beneath.{stands_at}
use Rattle.lattice_core.specs.Orders.{IsGap}

-- nothing stands in a gap
gap_empty : (p : Position) (ls hs : List Fact) → IsGap p ls hs → list_any (stands_at p) (ls ++ hs) ≡ false
gap_empty p ls hs gap = any-none (stands_at p) (ls ++ hs) (λ f i. by f (In-cases f ls hs i))
  where
    by : (f : Fact) → In f ls ⊎ In f hs → stands_at p f ≡ false
    by f (inl i) = ap is_eq (gap.below f i)
    by f (inr i) = ap is_eq (position_ranked.total.antisymm (position f) p ∙ ap ordering_reverse (gap.above f i))

-- both parts of a list
pub cut : {A : Type 0} (at : ℕ) (xs : List A) → take at xs ++ drop at xs ≡ xs
cut zero xs = refl
cut (suc at) [] = refl
cut (suc at) (x ∷ xs) = ap (λ l. x ∷ l) (cut at xs)

-- nor in that of typed facts
pub gap_none : {A : Type 0} (fact : A → Fact) (xs : List A) (at : ℕ) (p : Position) → IsGap p (map fact (take at xs)) (map fact (drop at xs)) → list_any (stands_at p) (map fact xs) ≡ false
gap_none {A} fact xs at p gap =
    ap (list_any (stands_at p)) (sym (ap (map fact) (cut at xs)) ∙ map-append fact (take at xs) (drop at xs)) ∙ gap_empty p (map fact (take at xs)) (map fact (drop at xs)) gap

-- the positions tell whether something stands there
pub same_places : (p : Position) (xs ys : List Fact) → map position xs ≡ map position ys → list_any (stands_at p) xs ≡ list_any (stands_at p) ys
same_places p xs ys e = at xs ∙ ap (list_any (λ q. is_eq (position_cmp q p))) e ∙ sym (at ys)
  where
    at : (zs : List Fact) → list_any (stands_at p) zs ≡ list_any (λ q. is_eq (position_cmp q p)) (map position zs)
    at [] = refl
    at (z ∷ zs) = ap (λ b. stands_at p z || b) (at zs)

-- one in the place of another at its position
pub set_places : {A : Type 0} (fact : A → Fact) (xs : List A) (at : ℕ) (x f : A) → x ≡ get_or xs at x → position (fact x) ≡ position (fact f) → map position (map fact (set xs at f)) ≡ map position (map fact xs)
set_places fact [] at x f e h = refl
set_places fact (y ∷ ys) zero x f e h = ap (λ (q : Position). q ∷ map position (map fact ys)) (sym h ∙ ap (λ z. position (fact z)) e)
set_places fact (y ∷ ys) (suc at) x f e h = ap (λ (l : List Position). position (fact y) ∷ l) (set_places fact ys at x f e h)
