-- One more item of a list, as at a step of a loop.
use Rattle.std.proofs.Common.{◌≡◌, ℕ, ◌+◌, ◌<◌, Bool, true, false, cond, ◌&&◌, ◌||◌, List, [], ◌∷◌, ◌++◌, map, take, length, get_or, refl, ap, ◌∙◌, sym, filter, append-nil, Ordering, Less, Equal, Greater}
use Rattle.std.specs.Ordering.{is_eq, ordering_then}
use Rattle.std.specs.List.{list_any}
use Rattle.std.proofs.lemmas.List.{take_more, map-append}
use Rattle.std.proofs.lemmas.List.Elements.{filter-append}
use Rattle.std.proofs.lemmas.List.Folds.{list_any_more}

-- whichever is asked first
or_cond : (b x : Bool) → cond b true x ≡ (x || b)
or_cond true true = refl
or_cond true false = refl
or_cond false true = refl
or_cond false false = refl

-- pairs are equal where both parts are
pub both_equal : (a b : Ordering) → is_eq (ordering_then a b) ≡ (is_eq a && is_eq b)
both_equal Less b = refl
both_equal Equal b = refl
both_equal Greater b = refl

-- the new item passes, or one before it did
pub any_more : {X : Type 0} (p : X → Bool) (xs : List X) (i : ℕ) (x : X) → i < length xs → x ≡ get_or xs i x → cond (p x) true (list_any p (take i xs)) ≡ list_any p (take (i + 1) xs)
any_more p xs i x within is =
    or_cond (p x) (list_any p (take i xs))
    ∙ ap (λ y. list_any p (take i xs) || p y) is
    ∙ sym (list_any_more p xs i x within)

-- the items so far, and their images
pub taken_more : {X : Type 0} (xs : List X) (i : ℕ) (x : X) → i < length xs → x ≡ get_or xs i x → take (i + 1) xs ≡ take i xs ++ x ∷ []
taken_more xs i x within is = take_more xs i x within ∙ ap (λ y. take i xs ++ y ∷ []) (sym is)

pub mapped_more : {X Y : Type 0} (f : X → Y) (xs : List X) (i : ℕ) (x : X) → i < length xs → x ≡ get_or xs i x → map f (take (i + 1) xs) ≡ map f (take i xs) ++ f x ∷ []
mapped_more f xs i x within is = ap (map f) (taken_more xs i x within is) ∙ map-append f (take i xs) (x ∷ [])

module _ {X : Type 0} (p : X → Bool) (before after : List X) (x : X) (more : after ≡ before ++ x ∷ []) where
  -- what passes of the new item stands behind what passed
  one_more : filter p after ≡ filter p before ++ filter p (x ∷ [])
  one_more = ap (filter p) more ∙ filter-append p before (x ∷ [])

  -- the new item passes
  pub kept_more : p x ≡ true → filter p before ++ x ∷ [] ≡ filter p after
  kept_more h = ap (λ b. filter p before ++ cond b (x ∷ []) []) (sym h) ∙ sym one_more

  -- it does not
  pub left_more : p x ≡ false → filter p before ≡ filter p after
  left_more h = sym (append-nil (filter p before)) ∙ ap (λ b. filter p before ++ cond b (x ∷ []) []) (sym h) ∙ sym one_more
