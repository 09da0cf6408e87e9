-- What is kept of unions.
use Rattle.std.proofs.Common.{◌≡◌, false, List, ◌++◌, sym, ap, ◌∙◌, append_assoc}
use Rattle.pcrf_values.specs.Ascending.{ascending}
use Rattle.pcrf_values.specs.Sets.{In, Same}
use Rattle.pcrf_values.specs.Facts.{Fact, fact_cmp, is_shaded_by}
use Rattle.pcrf_values.specs.Held.{kept_set, kept_list, join_of}
use Rattle.pcrf_values.proofs.SetLaws.{Same-itself, Same-back, Same-append, Same-turn, Same-twice, maximal-In, In-maximal, maximal-Same, maximal-append, maximal-maximal}
use Rattle.pcrf_values.proofs.FactLaws.{fact_ranked, shaded_irr, shaded_trans}
use Rattle.pcrf_values.proofs.AscendingLaws.{ascending-In, ascending-Same}

-- a kept fact is held, and none that is held overshadows it
pub kept-In : (f : Fact) (xs : List Fact) → In f (kept_set xs) → In f xs × ((g : Fact) → In g xs → is_shaded_by f g ≡ false)
kept-In = maximal-In is_shaded_by shaded_irr shaded_trans

-- and such a fact is kept
pub In-kept : (f : Fact) (xs : List Fact) → In f xs → ((g : Fact) → In g xs → is_shaded_by f g ≡ false) → In f (kept_set xs)
In-kept = In-maximal is_shaded_by shaded_irr shaded_trans

-- a union with the kept facts keeps what the union keeps
pub kept-append : (xs ys : List Fact) → Same (kept_set (kept_set xs ++ ys)) (kept_set (xs ++ ys))
kept-append = maximal-append is_shaded_by shaded_irr shaded_trans

-- what is kept depends on the members alone
pub kept-Same : (xs ys : List Fact) → Same xs ys → Same (kept_set xs) (kept_set ys)
kept-Same = maximal-Same is_shaded_by shaded_irr shaded_trans

-- the ascending list depends on the members alone
pub sorted-Same : (xs ys : List Fact) → Same xs ys → ascending fact_cmp xs ≡ ascending fact_cmp ys
sorted-Same = ascending-Same fact_cmp fact_ranked

-- and has the same members
pub sorted-In : (xs : List Fact) → Same (ascending fact_cmp xs) xs
sorted-In = ascending-In fact_cmp fact_ranked

-- what is held depends on the members alone
pub held-Same : (xs ys : List Fact) → Same xs ys → kept_list xs ≡ kept_list ys
held-Same xs ys s = sorted-Same (kept_set xs) (kept_set ys) (kept-Same xs ys s)

-- what is held of what is held and more
pub joined-held : (xs ys : List Fact) → join_of (kept_list xs) ys ≡ join_of xs ys
joined-held xs ys =
    held-Same (kept_list xs ++ ys) (kept_set xs ++ ys) (Same-append (kept_list xs) ys (kept_set xs) ys (sorted-In (kept_set xs)) (Same-itself ys))
    ∙ sorted-Same (kept_set (kept_set xs ++ ys)) (kept_set (xs ++ ys)) (kept-append xs ys)

-- in the other order
pub joined_comm : (xs ys : List Fact) → join_of xs ys ≡ join_of ys xs
joined_comm xs ys = held-Same (xs ++ ys) (ys ++ xs) (Same-turn xs ys)

-- of three
pub joined_assoc : (xs ys zs : List Fact) → join_of (join_of xs ys) zs ≡ join_of xs (join_of ys zs)
joined_assoc xs ys zs =
    joined-held (xs ++ ys) zs
    ∙ ap kept_list (append_assoc xs ys zs)
    ∙ joined_comm xs (ys ++ zs)
    ∙ sym (joined-held (ys ++ zs) xs)
    ∙ joined_comm (join_of ys zs) xs

-- what is held once is held
pub held_twice : (xs : List Fact) → kept_list (kept_list xs) ≡ kept_list xs
held_twice xs =
    held-Same (kept_list xs) (kept_set xs) (sorted-In (kept_set xs))
    ∙ sorted-Same (kept_set (kept_set xs)) (kept_set xs) (maximal-maximal is_shaded_by shaded_irr shaded_trans xs)

-- with itself
pub joined_idem : (xs : List Fact) → kept_list xs ≡ xs → join_of xs xs ≡ xs
joined_idem xs h = held-Same (xs ++ xs) xs (Same-twice xs) ∙ h

-- facts that are the kept ones of a union, in order
pub joined_is : (us vs ws : List Fact) → Same ws (kept_set (us ++ vs)) → ascending fact_cmp ws ≡ join_of (ascending fact_cmp us) (ascending fact_cmp vs)
joined_is us vs ws s =
    sorted-Same ws (kept_set (us ++ vs)) s
    ∙ held-Same (us ++ vs) (ascending fact_cmp us ++ ascending fact_cmp vs)
    (Same-append us vs (ascending fact_cmp us) (ascending fact_cmp vs) (Same-back (ascending fact_cmp us) us (sorted-In us)) (Same-back (ascending fact_cmp vs) vs (sorted-In vs)))

-- facts that are all kept, in order
pub held_is : (us : List Fact) → Same us (kept_set us) → kept_list (ascending fact_cmp us) ≡ ascending fact_cmp us
held_is us s = held-Same (ascending fact_cmp us) us (sorted-In us) ∙ sym (sorted-Same us (kept_set us) s)
