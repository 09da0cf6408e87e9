-- The names of the rules of one session differ: an operator's begin otherwise than a flow's, and a flow's name tells its session and its numbers,
-- which are cut from the back, for a Session-Id may hold the slash that parts them.
use Rattle.std.proofs.Common.{◌≡◌, ℕ, ◌<◌, ◌^◌, List, [], ◌∷◌, ◌++◌, inl, inr, refl, sym, ◌∙◌, subst, decimal, arith, append_assoc}
use Rattle.std.specs.Prelude.{codes}
use Rattle.std.proofs.lemmas.Fmt.{decimal_injective, decimal_is_IsNumeral}
use Rattle.std.proofs.lemmas.Str.Parse.{digit_from_value}
use Rattle.std.specs.Str.Parse.{AllDigits}
use Rattle.pcrf_values.specs.Sets.{In}

-- ---- cutting from the back

-- what parts a name
abbrev slash : ℕ
slash = 47

-- lists that are the same begin alike
pub heads : {A : Type 0} (x y : A) (xs ys : List A) → x ∷ xs ≡ y ∷ ys → x ≡ y
heads x y xs ys e = cc

-- and go on alike
tails : {A : Type 0} (x y : A) (xs ys : List A) → x ∷ xs ≡ y ∷ ys → xs ≡ ys
tails x y xs ys e = cc

-- the slash is in the middle
in_middle : (ys es : List ℕ) → In slash (ys ++ slash ∷ es)
in_middle [] es = inl refl
in_middle (y ∷ ys) es = inr (in_middle ys es)

-- what follows the last slash tells what stands before it
pub cut : (xs ys ds es : List ℕ) → (In slash ds → ⊥) → (In slash es → ⊥) → xs ++ slash ∷ ds ≡ ys ++ slash ∷ es → (xs ≡ ys) × (ds ≡ es)
cut [] [] ds es a b e = (refl, tails slash slash ds es e)
cut [] (y ∷ ys) ds es a b e = absurd (a (subst (λ (z : List ℕ). In slash z) (sym (tails slash y ds (ys ++ slash ∷ es) e)) (in_middle ys es)))
cut (x ∷ xs) [] ds es a b e = absurd (b (subst (λ (z : List ℕ). In slash z) (tails x slash (xs ++ slash ∷ ds) es e) (in_middle xs ds)))
cut (x ∷ xs) (y ∷ ys) ds es a b e =
    let h = heads x y (xs ++ slash ∷ ds) (ys ++ slash ∷ es) e in
    let r = cut xs ys ds es a b (tails x y (xs ++ slash ∷ ds) (ys ++ slash ∷ es) e) in
    (λ i. h i ∷ r.0 i, r.1)

-- digits are no slashes
no_slash : (ds : List ℕ) → AllDigits 10 ds → In slash ds → ⊥
no_slash [] d i = absurd i
no_slash (c ∷ cs) d (inl e) = let k = digit_from_value c d.0 in omega (arith, k, e)
no_slash (c ∷ cs) d (inr i) = no_slash cs d.1 i

-- so a written number has none
decimal_has_no_slash : (n : ℕ) → n < 2 ^ 32 → In slash (decimal n) → ⊥
decimal_has_no_slash n h = no_slash (decimal n) (decimal_is_IsNumeral n (omega (arith, h))).0.1

-- a written number tells the number
same_number : (m n : ℕ) → m < 2 ^ 32 → n < 2 ^ 32 → decimal m ≡ decimal n → m ≡ n
same_number m n p q = decimal_injective m n (omega (arith, p)) (omega (arith, q))

-- an id, a component and a flow are told by their text
pub parts_of_name : (xs ys : List ℕ) (c d m n : ℕ) → c < 2 ^ 32 → d < 2 ^ 32 → m < 2 ^ 32 → n < 2 ^ 32
    → xs ++ codes "/" ++ decimal c ++ codes "/" ++ decimal m ≡ ys ++ codes "/" ++ decimal d ++ codes "/" ++ decimal n → (xs ≡ ys) × (c ≡ d) × (m ≡ n)
parts_of_name xs ys c d m n hc hd hm hn e =
    let outer = cut (xs ++ codes "/" ++ decimal c) (ys ++ codes "/" ++ decimal d) (decimal m) (decimal n) (decimal_has_no_slash m hm) (decimal_has_no_slash n hn)
    (sym (append_assoc (xs ++ codes "/" ++ decimal c) (codes "/") (decimal m)) ∙ e ∙ append_assoc (ys ++ codes "/" ++ decimal d) (codes "/") (decimal n)) in
    let inner = cut xs ys (decimal c) (decimal d) (decimal_has_no_slash c hc) (decimal_has_no_slash d hd)
    (sym (append_assoc xs (codes "/") (decimal c)) ∙ outer.0 ∙ append_assoc ys (codes "/") (decimal d)) in
    (inner.0, same_number c d hc hd inner.1, same_number m n hm hn outer.1)
