-- That a session was asked to abort is known where one of its facts says so, until it ends.
use Rattle.std.proofs.Common.{◌≡◌, true, false, not, ◌&&◌, List, refl, sym, ap, subst}
use Rattle.std.specs.Cmp.{both_ways, first_so, second_so}
use Rattle.std.specs.List.{list_any}
use Rattle.pcrf_values.proofs.Plain.{clash, is_false, not_true, both}
use Rattle.pcrf_values.proofs.SetLaws.{In-any, any-In}
use Rattle.pcrf_values.specs.Sets.{In}
use Rattle.pcrf_values.specs.Facts.{Fact, End, Aborted, is_shaded_by}
use Rattle.pcrf_values.specs.Held.{kept_set, kept_list, ends, is_ended, aborts, is_aborted}
use Rattle.pcrf_values.proofs.JoinedLaws.{kept-In, In-kept, sorted-In}

-- only that fact says so
aborts_is : (f : Fact) → aborts f ≡ true → f ≡ Aborted
aborts_is Aborted h = refl
aborts_is f h = clash false h refl

-- the end alone overshadows it
abort_stays : (g : Fact) → ends g ≡ false → is_shaded_by Aborted g ≡ false
abort_stays End h = clash false (sym h) refl
abort_stays g h = refl

-- where the end is, none else is kept
none_kept : (facts : List Fact) (f : Fact) → is_ended facts ≡ true → In f (kept_set facts)
    → aborts f ≡ false
none_kept facts f h i = is_false (aborts f) (λ a.
    let e = any-In ends facts h in
    clash (is_shaded_by f e.0) (above f e.0 a e.2) ((kept-In f facts i).1 e.0 e.1))
  where
    above : (x y : Fact) → aborts x ≡ true → ends y ≡ true → is_shaded_by x y ≡ true
    above Aborted End a e = refl
    above Aborted y a e = clash false e refl
    above x y a e = clash false a refl

-- so it is known until the end
pub aborted_until_the_end : (facts : List Fact)
    → is_aborted facts ≡ (not (is_ended facts) && list_any aborts facts)
aborted_until_the_end facts = both_ways _ _ onward backward
  where
    onward : is_aborted facts ≡ true → (not (is_ended facts) && list_any aborts facts) ≡ true
    onward h =
        let r = any-In aborts (kept_list facts) h in
        let i = (sorted-In (kept_set facts) r.0).0 r.1 in
        let open_ : is_ended facts ≡ false =
        is_false (is_ended facts) (λ e. clash (aborts r.0) r.2 (none_kept facts r.0 e i)) in
        both (not (is_ended facts)) _ (ap not open_)
        (In-any aborts r.0 facts (kept-In r.0 facts i).0 r.2)

    backward : (not (is_ended facts) && list_any aborts facts) ≡ true → is_aborted facts ≡ true
    backward h =
        let open_ : is_ended facts ≡ false = not_true _ (first_so (not (is_ended facts)) _ h) in
        let r = any-In aborts facts (second_so (not (is_ended facts)) _ h) in
        let i : In Aborted facts = subst (λ (f : Fact). In f facts) (aborts_is r.0 r.2) r.1 in
        let no_end : (g : Fact) → In g facts → ends g ≡ false =
        λ g j. is_false (ends g) (λ e. clash (is_ended facts) (In-any ends g facts j e) open_) in
        let kept : In Aborted (kept_set facts) =
        In-kept Aborted facts i (λ g j. abort_stays g (no_end g j)) in
        In-any aborts Aborted (kept_list facts) ((sorted-In (kept_set facts) Aborted).1 kept) refl
