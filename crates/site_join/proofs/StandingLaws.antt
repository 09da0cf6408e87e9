-- Facts stand together just where all are kept, and there are some.
use Rattle.std.proofs.Common.{◌≡◌, ℕ, Bool, true, false, not, ◌&&◌, List, [], ◌∷◌, map, length, refl, sym, ap, nat_le, arith}
use Rattle.std.specs.Bool.{◌==◌}
use Rattle.std.specs.Cmp.{first_so, second_so}
use Rattle.std.specs.List.{list_any}
use Rattle.pcrf_values.specs.Ascending.{Rises}
use Rattle.pcrf_values.specs.Sets.{In}
use Rattle.pcrf_values.proofs.Plain.{both, clash, is_false, not_true}
use Rattle.pcrf_values.proofs.SetLaws.{any-none, none-any, In-map}
use Rattle.pcrf_values.specs.Places.{position_cmp}
use Rattle.pcrf_values.specs.Facts.{Fact, fact_cmp, position, is_shaded_by}
use Rattle.pcrf_model.specs.Forms.{is_rising, stand_together}
use Rattle.pcrf_model.proofs.FormLaws.{le_passes, rises_by_test, test_by_rises}
use Rattle.lattice_core.specs.Orders.{AreKept, AreNotKept}
use Rattle.lattice_core.proofs.KeepLaws.{kept_when, kept_free, kept_places, position_first}

-- one overshadows another
abbrev some_shaded : List Fact → Bool
some_shaded zs = list_any (λ f. list_any (is_shaded_by f) zs) zs

-- those that are kept stand together, if there are some
pub stands_kept : (zs : List Fact) → AreKept zs → nat_le 1 (length zs) ≡ true → stand_together zs ≡ true
stands_kept zs k some =
    both _ _
    (both _ _ some (test_by_rises position_cmp (map position zs) (kept_places zs k)))
    (ap not (any-none (λ f. list_any (is_shaded_by f) zs) zs (λ f i. any-none (is_shaded_by f) zs (λ g j. kept_free zs k f g i j))))

-- what rises by position rises
rises_facts : (zs : List Fact) → Rises position_cmp (map position zs) → Rises fact_cmp zs
rises_facts [] r = tt
rises_facts (z ∷ zs) r = (λ y i. position_first z y (r.0 (position y) (In-map position y zs i)), rises_facts zs r.1)

-- and those that aren't don't
pub stands_not : (zs : List Fact) → AreNotKept zs → stand_together zs ≡ false
stands_not zs fails = is_false (stand_together zs) (λ h. fails (kept_when zs (rises h) (free h)))
  where
    some : Bool
    some = nat_le 1 (length zs)

    rise : Bool
    rise = is_rising position_cmp (map position zs)

    rises : stand_together zs ≡ true → Rises fact_cmp zs
    rises h = rises_facts zs (rises_by_test position_cmp (map position zs) (second_so some rise (first_so (some && rise) (not (some_shaded zs)) h)))

    free : stand_together zs ≡ true → (f g : Fact) → In f zs → In g zs → is_shaded_by f g ≡ false
    free h f g i j =
        let none : some_shaded zs ≡ false = not_true (some_shaded zs) (second_so (some && rise) (not (some_shaded zs)) h) in
        none-any (is_shaded_by f) zs (none-any (λ f. list_any (is_shaded_by f) zs) zs none f i) g j

-- so a test of the one is one of the other
pub stands_where : (zs : List Fact) (b : Bool) → (b ≡ true → AreKept zs) → (b ≡ false → AreNotKept zs) → nat_le 1 (length zs) ≡ true → b ≡ stand_together zs
stands_where zs true kept fails some = sym (stands_kept zs (kept refl) some)
stands_where zs false kept fails some = sym (stands_not zs (fails refl))

-- what isn't empty has one
pub has_some : {A : Type 0} (fact : A → Fact) (xs : List A) → (length xs == 0) ≡ false → nat_le 1 (length (map fact xs)) ≡ true
has_some fact [] h = clash true refl h
has_some fact (x ∷ xs) h = le_passes 1 (length (map fact (x ∷ xs))) (omega arith)
