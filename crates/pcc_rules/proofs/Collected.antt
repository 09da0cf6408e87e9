-- What was collected of answers that may be refusals.
use Rattle.std.proofs.Common.{◌≡◌, List, [], ◌∷◌, map, Result, Ok, Err, IfOk, sym, subst}
use Rattle.std.specs.Prelude.{MatchResult}
use Rattle.std.specs.List.{AllZip, Contains}
use Rattle.std.specs.declared.vec.Vec.{Vec}

module _ {X Y : Type 0} (E : Type 0) (P : X → Y → Type 0) where
  -- each answer was given
  all_given : (xs : List X) (ys : List Y) → AllZip (λ x (q : Result Y E). IfOk q (P x)) xs (map Ok ys) → AllZip P xs ys
  all_given [] [] h = tt
  all_given [] (y ∷ ys) h = absurd h
  all_given (x ∷ xs) [] h = absurd h
  all_given (x ∷ xs) (y ∷ ys) h = (h.0, all_given xs ys h.1)

  -- so where none was refused what is collected has what each answer has
  pub collected : {A : Type 0} (xs : List X) (r : Result (Vec Y A) E) (ys : List (Result Y E)) → AllZip (λ x (q : Result Y E). IfOk q (P x)) xs ys
      → MatchResult r (λ (v : Vec Y A). (zs : List Y) × (ys ≡ map Ok zs) × (v.items ≡ zs)) (λ e. Contains ys (Err e)) → IfOk r (λ (v : Vec Y A). AllZip P xs v.items)
  collected xs (Ok v) ys all h = subst (λ (zs : List Y). AllZip P xs zs) (sym h.2) (all_given xs h.0 (subst (λ (qs : List (Result Y E)). AllZip (λ x (q : Result Y E). IfOk q (P x)) xs qs) h.1 all))
  collected xs (Err e) ys all h = tt
