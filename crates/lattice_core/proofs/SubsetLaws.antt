-- Whether facts are among others, as tests tell it.
use Rattle.std.proofs.Common.{◌≡◌, true, List, [], ◌∷◌, inl, refl, subst}
use Rattle.std.specs.Prelude.{Decides}
use Rattle.std.specs.Ordering.{is_eq}
use Rattle.std.specs.List.{list_any}
use Rattle.std.proofs.lemmas.Bool.Decides.{Decides-or}
use Rattle.pcrf_values.specs.Sets.{In}
use Rattle.pcrf_values.proofs.OrderLaws.{eq_is, eq_itself}
use Rattle.lattice_core.specs.Subsets.{IsSubset}
use Rattle.lattice_core.proofs.Subsets.{Tells, never, always, all_decides}
use Rattle.pcrf_values.specs.Facts.{Fact, fact_cmp}
use Rattle.pcrf_values.proofs.FactLaws.{fact_ranked}
use Rattle.lattice_core.specs.Sets.{facts_subset, facts_empty}

-- a test of some member tells whether there is one
is_member : (x : Fact) (ys : List Fact) → Decides (list_any (λ y. is_eq (fact_cmp x y)) ys) (In x ys)
is_member x [] = never (λ i. i)
is_member x (y ∷ ys) = Decides-or (is_eq (fact_cmp x y)) (list_any (λ z. is_eq (fact_cmp x z)) ys)
    (λ h. eq_is fact_ranked x y h, λ e. subst (λ (z : Fact). is_eq (fact_cmp x z) ≡ true) e (eq_itself fact_ranked x))
    (is_member x ys)

-- none is there
none_there : (xs : List Fact) → Decides (facts_empty xs) (IsSubset xs [])
none_there [] = always (λ a i. i)
none_there (x ∷ xs) = never (λ h. h x (inl refl))

-- Lists of facts tell of themselves.
pub facts_tell : {valid : List Fact → Type 0} → Tells valid facts_subset facts_empty (λ xs. xs)
facts_tell = record {
  some = λ xs ys _ _. all_decides (λ x. list_any (λ y. is_eq (fact_cmp x y)) ys) (λ x. In x ys) xs (λ x _. is_member x ys);
  none = λ xs _. none_there xs;
}
