-- What compares as equal is the same value.
use Rattle.std.specs.Prelude.{◌≡◌, ℕ, List, Some, None, [], ◌∷◌, refl, true, IsTrue, nat_eq}
use Rattle.std.specs.declared.cmp.Ordering.{Ordering}
use Rattle.std.specs.declared.cmp.Ordering.TheVariants.{Less, Equal, Greater}
use Rattle.std.specs.Ordering.{nat_cmp, ordering_then, is_eq, eq_by_cmp}
use Rattle.std.specs.Option.{option_cmp}
use Rattle.std.specs.Cmp.Lexicographic.{slice_cmp, pointwise}
use Rattle.std.proofs.Common.{ap, arith}
use Rattle.std.proofs.lemmas.Bool.Decides.{nat_tests}
use Rattle.pcrf_values.specs.Exact.{IsExact}
use Rattle.pcrf_values.specs.Orders.{text_cmp}

-- numbers that compare as equal are the same
pub nat_same : IsExact nat_cmp
nat_same x y e = grind (arith, nat_tests)

-- both parts of a comparison in turn
pub then_parts : (o p : Ordering) → ordering_then o p ≡ Equal → (o ≡ Equal) × (p ≡ Equal)
then_parts Less p e = absurd (cc)
then_parts Equal p e = (refl, e)
then_parts Greater p e = absurd (cc)

-- so are lists
pub list_same : {K : Type 0} {R : K → K → Ordering} → IsExact R → IsExact (slice_cmp R)
list_same {K} {R} s [] [] e = refl
list_same {K} {R} s [] (y ∷ ys) e = absurd (cc)
list_same {K} {R} s (x ∷ xs) [] e = absurd (cc)
list_same {K} {R} s (x ∷ xs) (y ∷ ys) e =
    let both = then_parts (R x y) (slice_cmp R xs ys) e in
    let head : x ≡ y = s x y both.0 in
    let rest : xs ≡ ys = list_same s xs ys both.1 in
    cc

-- so are texts
pub text_same : IsExact text_cmp
text_same = list_same nat_same

-- texts that are equal byte by byte are the same
pub text_equal : (x y : List ℕ) → pointwise nat_eq x y ≡ true → x ≡ y
text_equal [] [] e = refl
text_equal [] (y ∷ ys) e = absurd (cc)
text_equal (x ∷ xs) [] e = absurd (cc)
text_equal (x ∷ xs) (y ∷ ys) e =
    let head : x ≡ y = grind (arith, nat_tests) in
    let rest : xs ≡ ys = text_equal xs ys (grind (arith, nat_tests)) in
    cc

-- so they are hashed the same
pub same_input : (x y : List ℕ) → IsTrue (pointwise nat_eq x y) → x ∷ [] ≡ y ∷ []
same_input x y e = ap (λ s. s ∷ []) (text_equal x y (grind (arith, nat_tests)))

-- a comparison that answers `Equal`
is_equal : (o : Ordering) → is_eq o ≡ true → o ≡ Equal
is_equal Less h = absurd (cc)
is_equal Equal h = refl
is_equal Greater h = absurd (cc)

-- so are values that an order doesn't tell apart
pub input_alike : {V : Type 0} {R : V → V → Ordering} → IsExact R → (f : V → List (List ℕ)) → (x y : V) → IsTrue (eq_by_cmp R x y) → f x ≡ f y
input_alike {V} {R} s f x y e = ap f (s x y (is_equal (R x y) e))

-- so are options
pub option_same : {K : Type 0} {R : K → K → Ordering} → IsExact R → IsExact (option_cmp R)
option_same {K} {R} s None None e = refl
option_same {K} {R} s None (Some y) e = absurd (cc)
option_same {K} {R} s (Some x) None e = absurd (cc)
option_same {K} {R} s (Some x) (Some y) e = ap Some (s x y e)

-- so are pairs
pub pair_same : {A B : Type 0} {R : A → A → Ordering} {S : B → B → Ordering} → IsExact R → IsExact S → IsExact {K = A × B} (λ p q. ordering_then (R p.0 q.0) (S p.1 q.1))
pair_same {A} {B} {R} {S} r s p q e =
    let both = then_parts (R p.0 q.0) (S p.1 q.1) e in
    let first : p.0 ≡ q.0 = r p.0 q.0 both.0 in
    let second : p.1 ≡ q.1 = s p.1 q.1 both.1 in
    λ i. (first i, second i)
