-- Whether a fact overshadows another, by the positions of the two.
use Rattle.std.proofs.Common.{◌≡◌, ℕ, Bool, true, false, ◌||◌, ◌&&◌, List, [], ◌∷◌, map, ◌⊎◌, inl, inr, refl, sym, ap, ◌∙◌, Equal, nat_eq, arith}
use Rattle.std.proofs.lemmas.Bool.Decides.{nat_tests}
use Rattle.std.specs.Ordering.{nat_cmp, is_eq, is_lt, ordering_then, ordering_reverse}
use Rattle.std.specs.List.{list_any}
use Rattle.pcrf_values.specs.Sets.{In}
use Rattle.pcrf_values.proofs.SetLaws.{any-none, In-map}
use Rattle.pcrf_values.specs.declared.tag.Tag.{Tag}
use Rattle.pcrf_values.specs.Places.{Place, OfSession, OfComponent, OfFlow, OfRuleName, Component, Flow, position_cmp}
use Rattle.pcrf_values.specs.Values.{Value, entry_cmp}
use Rattle.pcrf_values.specs.Facts.{Fact, End, Removed, Field, Aborted, position, is_shaded_by}
use Rattle.lattice_core.specs.Beneath.{beneath_place, beneath_of, removes}
use Rattle.lattice_core.specs.declared.fact.Beneath.{Beneath}
use Rattle.lattice_core.specs.declared.fact.Beneath.TheVariants as beneath

-- ---- tests of some member

-- of two tests
pub any_either : {A : Type 0} (p q : A → Bool) (xs : List A) → list_any (λ x. p x || q x) xs ≡ (list_any p xs || list_any q xs)
any_either p q [] = refl
any_either p q (x ∷ xs) =
    let rest = any_either p q xs in
    rw rest (swap_or (p x) (q x) (list_any p xs) (list_any q xs))
  where
    swap_or : (a b c d : Bool) → ((a || b) || (c || d)) ≡ ((a || c) || (b || d))
    swap_or true b c d = refl
    swap_or false true true d = refl
    swap_or false true false d = refl
    swap_or false false true d = refl
    swap_or false false false d = refl

-- where the first holds of some member
pub first_of_either : {A : Type 0} (p q : A → Bool) (xs : List A) → list_any p xs ≡ true → true ≡ list_any (λ x. p x || q x) xs
first_of_either p q xs h = sym (any_either p q xs ∙ ap (λ b. b || list_any q xs) h)

-- where it holds of none
pub second_of_either : {A : Type 0} (p q : A → Bool) (xs : List A) (b : Bool) → list_any p xs ≡ false → b ≡ list_any q xs → b ≡ list_any (λ x. p x || q x) xs
second_of_either p q xs b h e = e ∙ sym (any_either p q xs ∙ ap (λ b. b || list_any q xs) h)

-- nothing removes the end
pub none_removes : (xs : List Fact) → list_any (removes beneath.Nothing) xs ≡ false
none_removes xs = any-none (removes beneath.Nothing) xs (λ x i. refl)

-- tests that agree on the members
pub any_agrees : {A : Type 0} (p q : A → Bool) (xs : List A) → ((x : A) → In x xs → p x ≡ q x) → list_any p xs ≡ list_any q xs
any_agrees p q [] h = refl
any_agrees p q (x ∷ xs) h =
    let first = h x (inl refl) in
    let rest = any_agrees p q xs (λ y i. h y (inr i)) in
    rw (first, rest) refl

-- ---- two facts

-- numbers that compare as equal
numbers_tie : (c d : ℕ) → is_eq (ordering_then (nat_cmp c d) Equal) ≡ nat_eq c d
numbers_tie c d = grind (arith, nat_tests)

-- and pairs of them
pairs_tie : (c d n m : ℕ) → is_eq (ordering_then (nat_cmp c d) (ordering_then (nat_cmp n m) Equal)) ≡ (nat_eq c d && nat_eq n m)
pairs_tie c d n m = grind (arith, nat_tests)

-- nothing more
or_false : (b : Bool) → (b || false) ≡ b
or_false true = refl
or_false false = refl

-- a field removes nothing
pub field_removes : (b : Beneath) (q : Place) (u : Tag) (w : Value) → removes b (Field q u w) ≡ false
field_removes beneath.Nothing q u w = refl
field_removes beneath.Session (OfSession x) u w = refl
field_removes beneath.Session (OfComponent d x) u w = refl
field_removes beneath.Session (OfFlow d m x) u w = refl
field_removes beneath.Session (OfRuleName x) u w = refl
field_removes (beneath.Component c) (OfSession x) u w = refl
field_removes (beneath.Component c) (OfComponent d x) u w = refl
field_removes (beneath.Component c) (OfFlow d m x) u w = refl
field_removes (beneath.Component c) (OfRuleName x) u w = refl
field_removes (beneath.Flow c n) (OfSession x) u w = refl
field_removes (beneath.Flow c n) (OfComponent d x) u w = refl
field_removes (beneath.Flow c n) (OfFlow d m x) u w = refl
field_removes (beneath.Flow c n) (OfRuleName x) u w = refl

-- at another position a fact overshadows one just where it removes what that is beneath
pub shades_beneath : (f g : Fact) → is_eq (position_cmp (position f) (position g)) ≡ false → is_shaded_by f g ≡ removes (beneath_of f) g
shades_beneath End g e = refl
shades_beneath Aborted End e = refl
shades_beneath Aborted (Removed (Component d)) e = refl
shades_beneath Aborted (Removed (Flow d m)) e = refl
shades_beneath Aborted (Field p t v) e = sym (field_removes beneath.Session p t v)
shades_beneath Aborted Aborted e = refl
shades_beneath (Removed (Component c)) Aborted e = refl
shades_beneath (Removed (Flow c n)) Aborted e = refl
shades_beneath (Field (OfSession x) t v) Aborted e = refl
shades_beneath (Field (OfComponent c x) t v) Aborted e = refl
shades_beneath (Field (OfFlow c n x) t v) Aborted e = refl
shades_beneath (Field (OfRuleName x) t v) Aborted e = refl
shades_beneath (Removed (Component c)) End e = refl
shades_beneath (Removed (Component c)) (Removed (Component d)) e = refl
shades_beneath (Removed (Component c)) (Removed (Flow d m)) e = refl
shades_beneath (Removed (Component c)) (Field (OfSession x) t v) e = refl
shades_beneath (Removed (Component c)) (Field (OfComponent d x) t v) e = refl
shades_beneath (Removed (Component c)) (Field (OfFlow d m x) t v) e = refl
shades_beneath (Removed (Component c)) (Field (OfRuleName x) t v) e = refl
shades_beneath (Removed (Flow c n)) End e = refl
shades_beneath (Removed (Flow c n)) (Removed (Component d)) e = sym (numbers_tie d c)
shades_beneath (Removed (Flow c n)) (Removed (Flow d m)) e = refl
shades_beneath (Removed (Flow c n)) (Field (OfSession x) t v) e = refl
shades_beneath (Removed (Flow c n)) (Field (OfComponent d x) t v) e = refl
shades_beneath (Removed (Flow c n)) (Field (OfFlow d m x) t v) e = refl
shades_beneath (Removed (Flow c n)) (Field (OfRuleName x) t v) e = refl
shades_beneath (Field p t v) (Field q u w) e = ap (λ b. b && is_lt (entry_cmp (t, v) (u, w))) e ∙ sym (field_removes (beneath_place p) q u w)
shades_beneath (Field (OfSession x) t v) End e = refl
shades_beneath (Field (OfSession x) t v) (Removed (Component d)) e = refl
shades_beneath (Field (OfSession x) t v) (Removed (Flow d m)) e = refl
shades_beneath (Field (OfRuleName x) t v) End e = refl
shades_beneath (Field (OfRuleName x) t v) (Removed (Component d)) e = refl
shades_beneath (Field (OfRuleName x) t v) (Removed (Flow d m)) e = refl
shades_beneath (Field (OfComponent c x) t v) End e = refl
shades_beneath (Field (OfComponent c x) t v) (Removed (Component d)) e = sym (numbers_tie d c)
shades_beneath (Field (OfComponent c x) t v) (Removed (Flow d m)) e = refl
shades_beneath (Field (OfFlow c n x) t v) End e = refl
shades_beneath (Field (OfFlow c n x) t v) (Removed (Component d)) e = sym (numbers_tie d c) ∙ sym (or_false (is_eq (ordering_then (nat_cmp d c) Equal)))
shades_beneath (Field (OfFlow c n x) t v) (Removed (Flow d m)) e = sym (pairs_tie d c m n)
