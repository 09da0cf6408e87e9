-- Orders of pairs and of alternatives, made of orders of their parts, and the order of texts.
use Rattle.std.specs.Prelude.{ℕ, List, ◌⊎◌}
use Rattle.std.proofs.Common.{inl, inr, Ordering, Less, Greater}
use Rattle.std.specs.Ordering.{ordering_then, nat_cmp}
use Rattle.std.specs.Cmp.Lexicographic.{slice_cmp}

-- by the first parts, and then by the second
abbrev pub pair_cmp : {A B : Type 0} → (A → A → Ordering) → (B → B → Ordering) → A × B → A × B → Ordering
pair_cmp R S x y = ordering_then (R x.0 y.0) (S x.1 y.1)

-- each of the first kind is below each of the second
abbrev pub either_cmp : {A B : Type 0} → (A → A → Ordering) → (B → B → Ordering) → A ⊎ B → A ⊎ B → Ordering
either_cmp R S (inl x) (inl y) = R x y
either_cmp R S (inl x) (inr y) = Less
either_cmp R S (inr x) (inl y) = Greater
either_cmp R S (inr x) (inr y) = S x y

-- texts by bytes, a prefix first
abbrev pub text_cmp : List ℕ → List ℕ → Ordering
text_cmp = slice_cmp nat_cmp
