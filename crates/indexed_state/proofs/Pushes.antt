-- Lists that grow by one.
use Rattle.std.proofs.Common.{◌≡◌, List, [], ◌∷◌, ◌++◌, map, Option, Some, None, refl, ap, ◌∙◌, append_assoc}
use Rattle.std.specs.List.{filter_map, cons_option}
use Rattle.std.specs.Option.{option_to_list}
use Rattle.std.proofs.lemmas.List.Elements.{filter_map-append}
use Rattle.std.proofs.lemmas.List.{map-append}

-- one more before the rest
pub pushed : {A B : Type 0} (f : A → B) (xs : List A) (x : A) (ys : List B) → map f (xs ++ x ∷ []) ++ ys ≡ map f xs ++ (f x ∷ ys)
pushed f xs x ys = ap (λ l. l ++ ys) (map-append f xs (x ∷ [])) ∙ append_assoc (map f xs) (f x ∷ []) ys

-- what is taken of one more
pub taken_more : {A B : Type 0} (f : A → Option B) (xs : List A) (x : A) → filter_map f (xs ++ x ∷ []) ≡ filter_map f xs ++ option_to_list (f x)
taken_more {B = B} f xs x = filter_map-append f xs (x ∷ []) ∙ ap (λ (l : List B). filter_map f xs ++ l) (one_taken (f x))
  where
    one_taken : (o : Option B) → cons_option o [] ≡ option_to_list o
    one_taken None = refl
    one_taken (Some y) = refl
