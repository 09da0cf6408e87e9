-- Sets of facts, as tests.
use Rattle.std.specs.Prelude.{Bool, true, false, List, [], ◌∷◌}
use Rattle.std.specs.Ordering.{is_eq}
use Rattle.std.specs.List.{list_all, list_any}
use Rattle.pcrf_values.specs.Facts.{Fact, fact_cmp}

-- each fact of the first is one of the second
abbrev pub facts_subset : List Fact → List Fact → Bool
facts_subset xs ys = list_all (λ x. list_any (λ y. is_eq (fact_cmp x y)) ys) xs

-- there is no fact
abbrev pub facts_empty : List Fact → Bool
facts_empty [] = true
facts_empty (x ∷ xs) = false
