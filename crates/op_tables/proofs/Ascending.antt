-- Maps that are made in ascending order.
use Rattle.std.proofs.Common.{◌≡◌, List, [], ◌∷◌, ◌++◌, Ordering, Less, Greater, refl, ap, sym, subst, ◌∙◌, append_assoc}
use Rattle.std.specs.BTreeMap.{insert_entry}
use Rattle.std.specs.Cmp.{IsTotalOrder}
use Rattle.std.specs.List.{AllByRecursion}
use Rattle.std.specs.List.Sorted.{IsStrictlySortedBy}
use Rattle.std.specs.Map.{keys_of}
use Rattle.std.specs.Ordering.{ordering_reverse}

below_middle : {K X : Type 0} (cmp : K → K → Ordering) (first : K × X) (es : List (K × X)) (e : K × X) (more : List (K × X)) → AllByRecursion (λ y. cmp first.0 y ≡ Less) (keys_of (es ++ e ∷ more)) → cmp first.0 e.0 ≡ Less
below_middle cmp first [] e more h = h.0
below_middle cmp first (x ∷ es) e more h = below_middle cmp first es e more h.1

-- an entry whose key is above those before it goes last
pub insert_last : {K X : Type 0} {cmp : K → K → Ordering} → IsTotalOrder cmp → (done : List (K × X)) (e : K × X) (more : List (K × X)) → IsStrictlySortedBy cmp (keys_of (done ++ e ∷ more))
    → insert_entry cmp done e.0 e.1 ≡ done ++ e ∷ []
unfolding IsStrictlySortedBy
insert_last total [] e more h = refl
insert_last {K} {X} {cmp} total (first ∷ done) e more h =
    let above : cmp e.0 first.0 ≡ Greater = total.antisymm e.0 first.0 ∙ ap ordering_reverse (below_middle cmp first done e more h.0) in
    rw above (ap (λ (es : List (K × X)). first ∷ es) (insert_last total done e more h.1))

-- a map that has the first entries of another has one more after the next is put in
pub one_more : {K X : Type 0} {cmp : K → K → Ordering} → IsTotalOrder cmp → (all done made : List (K × X)) (k l : K) (v w : X) (left : List (K × X))
    → IsStrictlySortedBy cmp (keys_of all) → all ≡ done ++ (k, v) ∷ left → l ≡ k → w ≡ v → made ≡ insert_entry cmp done l w → all ≡ made ++ left
one_more {K} {X} {cmp} total all done made k l v w left sorted whole same_key same_value put =
    let last = insert_last total done (k, v) left (subst (λ es. IsStrictlySortedBy cmp (keys_of es)) whole sorted) in
    let made_is : made ≡ done ++ (k, v) ∷ [] = rw (put, same_key, same_value) last in
    rw (whole, made_is) (sym (append_assoc done ((k, v) ∷ []) left))
