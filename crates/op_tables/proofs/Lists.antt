-- Tests and readings of all members of a list.
use Rattle.std.proofs.Common.{◌≡◌, ℕ, Bool, true, false, ◌||◌, List, [], ◌∷◌, ◌++◌, map, refl, ap, sym, ◌∙◌, Option, Some, None, option_map, unwrap_or, cond}
use Rattle.std.proofs.lemmas.Option.{same_Some}
use Rattle.std.specs.Option.{option_and_then}
use Rattle.std.specs.List.{list_any}
use Rattle.pcrf_values.specs.Filters.{filter_of, is_filter}
use Rattle.toml.specs.Data.{Data, as_str}
use Rattle.op_tables.specs.Values.{all_of, filter, text_in}

pub list_any-map : {A B : Type 0} (p : B → Bool) (f : A → B) (xs : List A) → list_any p (map f xs) ≡ list_any (λ x. p (f x)) xs
list_any-map p f [] = refl
list_any-map p f (x ∷ xs) = ap (λ (b : Bool). p (f x) || b) (list_any-map p f xs)

-- ---- readings of all members

grown : {Y : Type 0} (o : Option Y) (os : Option (List Y)) (y : Y) → option_and_then (λ z. option_map (λ ys. z ∷ ys) (option_map (λ (ys : List Y). ys ++ y ∷ []) os)) o ≡ option_map (λ (ys : List Y). ys ++ y ∷ []) (option_and_then (λ z. option_map (λ ys. z ∷ ys) os) o)
grown None os y = refl
grown (Some z) None y = refl
grown (Some z) (Some ys) y = refl

pushed : {X Y : Type 0} (f : X → Option Y) (xs : List X) (x : X) (y : Y) → f x ≡ Some y → all_of f (xs ++ x ∷ []) ≡ option_map (λ (ys : List Y). ys ++ y ∷ []) (all_of f xs)
pushed {X} {Y} f [] x y one = rw one
pushed {X} {Y} f (z ∷ xs) x y one = rw (pushed f xs x y one) (grown (f z) (all_of f xs) y)

pub all_of-push : {X Y : Type 0} (f : X → Option Y) (xs : List X) (ys : List Y) (x : X) (y : Y) → all_of f xs ≡ Some ys → f x ≡ Some y → all_of f (xs ++ x ∷ []) ≡ Some (ys ++ y ∷ [])
all_of-push {X} {Y} f xs ys x y all one = pushed f xs x y one ∙ ap (option_map (λ (ys : List Y). ys ++ y ∷ [])) all

nothing : {Y : Type 0} (o : Option Y) → option_and_then (λ z. option_map (λ (ys : List Y). z ∷ ys) None) o ≡ None
nothing None = refl
nothing (Some z) = refl

pub one_missing : {X Y : Type 0} (f : X → Option Y) (xs : List X) (x : X) (zs : List X) → f x ≡ None → all_of f (xs ++ x ∷ zs) ≡ None
one_missing {X} {Y} f [] x zs h = rw h
one_missing {X} {Y} f (z ∷ xs) x zs h = rw (one_missing f xs x zs h) (nothing (f z))

-- ---- what filters there are

filter_of_is : (xs : List ℕ) → filter_of xs ≡ option_map (λ _. xs) (filter_of xs)
filter_of_is xs = elim (is_filter xs) as (λ (b : Bool). cond b (Some xs) None ≡ option_map (λ (_ : List ℕ). xs) (cond b (Some xs) None)) [
  | true ↦ refl
  | false ↦ refl
]

within_is : (o : Option (List ℕ)) → option_and_then filter_of o ≡ option_map (λ _. unwrap_or o []) (option_and_then filter_of o)
within_is None = refl
within_is (Some xs) = filter_of_is xs

grown_by : (a : List ℕ) (o : Option (List ℕ)) (os : Option (List (List ℕ))) (rest : List (List ℕ)) → o ≡ option_map (λ _. a) o → os ≡ option_map (λ _. rest) os → option_and_then (λ z. option_map (λ ys. z ∷ ys) os) o ≡ option_map (λ _. a ∷ rest) (option_and_then (λ z. option_map (λ ys. z ∷ ys) os) o)
grown_by a None os rest h k = refl
grown_by a (Some z) None rest h k = refl
grown_by a (Some z) (Some ys) rest h k = rw (same_Some _ _ h, same_Some _ _ k)

all_filters : (ds : List Data) → all_of filter ds ≡ option_map (λ _. map text_in ds) (all_of filter ds)
all_filters [] = refl
all_filters (d ∷ ds) = grown_by (text_in d) (filter d) (all_of filter ds) (map text_in ds) (within_is (as_str d)) (all_filters ds)

pub filters_are : (ds : List Data) (ys : List (List ℕ)) → all_of filter ds ≡ Some ys → map text_in ds ≡ ys
filters_are ds ys all = same_Some _ _ (sym (ap (option_map (λ (_ : List (List ℕ)). map text_in ds)) all) ∙ sym (all_filters ds) ∙ all)
