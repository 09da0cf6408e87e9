-- What is to be removed or installed, and whether anything is, is seen of each fact and each rule alone.
use Rattle.std.proofs.Common.{◌≡◌, ℕ, zero, suc, ◌+◌, ◌==◌, Bool, true, false, cond, not, ◌&&◌, ◌||◌, List, [], ◌∷◌, map, length, filter, flat_map, ◌++◌, refl, sym, ap, ◌∙◌, arith}
use Rattle.std.proofs.lemmas.Bool.Decides.{nat_tests}
use Rattle.std.proofs.lemmas.List.{nil_from_length, map-append}
use Rattle.std.proofs.lemmas.List.Elements.{filter-append}
use Rattle.std.specs.List.{list_any, filter_map}
use Rattle.std.proofs.lemmas.List.Folds.{list_any-append}
use Rattle.pcrf_values.specs.RuleValues.{RuleValue, DeltaValue}
use Rattle.pcrf_values.specs.Facts.{Fact}
use Rattle.pcrf_values.specs.ToldWords.{ToldRule, told_entry, told_entries, told_rule, told_rules}
use Rattle.pcrf_model.specs.Differences.{difference, has_name, holds, is_empty, told_name_of}
use Rattle.gx_records.specs.GxFacts.{fact_of, rules_told}
use Rattle.gx_records.specs.declared.fact.GxFact.{GxFact}
use Rattle.pcrf_model.specs.Serving.{empty_delta}
use Rattle.gx_records.proofs.FieldLaws.{rules_listed}
use Rattle.rule_delta.specs.ToldAll.{has_no_rule, names_left, tell}

-- one more than a number isn't nothing
one_more : (n : ℕ) → (suc n == 0) ≡ false
one_more n = grind (arith, nat_tests)

module _ {A : Type 0} (p : A → Bool) where
  -- what is kept is nothing where none passes
  none_kept : (xs : List A) → (length (filter p xs) == 0) ≡ not (list_any p xs)
  none_kept [] = refl
  none_kept (x ∷ xs) = elim (p x) as (λ b. (length (cond b (x ∷ filter p xs) (filter p xs)) == 0) ≡ not (b || list_any p xs)) [
    | true ↦ one_more (length (filter p xs))
    | false ↦ none_kept xs
  ]

  -- one of some that are made of others
  any_made : {B : Type 0} (f : B → A) (ys : List B) → list_any p (map f ys) ≡ list_any (λ y. p (f y)) ys
  any_made f [] = refl
  any_made f (y ∷ ys) = ap (λ b. p (f y) || b) (any_made f ys)

  -- one of some in turn
  any_flat : {B : Type 0} (g : B → List A) (ys : List B) → list_any p (flat_map g ys) ≡ list_any (λ y. list_any p (g y)) ys
  any_flat g [] = refl
  any_flat g (y ∷ ys) = list_any-append p (g y) (flat_map g ys) ∙ ap (λ b. list_any p (g y) || b) (any_flat g ys)

-- two lengths are nothing together where each is
none_of_both : (m n : ℕ) → (m + n == 0) ≡ ((m == 0) && (n == 0))
none_of_both zero n = let same : 0 + n ≡ n = omega arith in ap (λ k. k == 0) same
none_of_both (suc m) n =
    let some : (suc m + n == 0) ≡ false = grind (arith, nat_tests) in
    some ∙ sym (ap (λ b. b && (n == 0)) (one_more m))

-- what is kept of some in turn, each made of another
kept_flat : {A B C : Type 0} (p : B → Bool) (f : A → B) (g : C → List A) (ys : List C) → filter p (map f (flat_map g ys)) ≡ flat_map (λ y. filter p (map f (g y))) ys
kept_flat p f g [] = refl
kept_flat p f g (y ∷ ys) =
    ap (filter p) (map-append f (g y) (flat_map g ys))
    ∙ filter-append p (map f (g y)) (map f (flat_map g ys))
    ∙ ap (λ l. filter p (map f (g y)) ++ l) (kept_flat p f g ys)

module _ (own : List Fact) (facts : List GxFact) (rules : List RuleValue) (is : filter_map told_entry (map fact_of facts) ≡ told_entries own) where
  -- what was told
  abbrev told : List ToldRule
  told = told_rules own

  -- is what the facts tell
  listed : told ≡ flat_map rules_told facts
  listed = sym (rules_listed facts ∙ ap (filter_map told_rule) is)

  -- a rule was told just so where one of them tells it so
  one : (r : RuleValue) → holds told r ≡ tell facts r
  one r = ap (λ t. holds t r) listed ∙ any_flat _ rules_told facts

  -- nothing is to be removed or installed where each fact's rule has one of its name, and each rule is told
  pub all_told : (not (list_any (has_no_rule rules) facts) && not (list_any (λ r. not (tell facts r)) rules)) ≡ is_empty (difference (told_rules own) rules)
  all_told =
      sym (none_of_both (length (difference told rules).removed) (length (difference told rules).installed)
      ∙ ap (λ b. b && (length (difference told rules).installed == 0)) (none_kept (λ n. not (list_any (has_name n) rules)) (map told_name_of told) ∙ ap not removed)
      ∙ ap (λ b. not (list_any (has_no_rule rules) facts) && b) (none_kept (λ r. not (holds told r)) rules ∙ ap not installed))
    where
      removed : list_any (λ n. not (list_any (has_name n) rules)) (map told_name_of told) ≡ list_any (has_no_rule rules) facts
      removed = any_made (λ n. not (list_any (has_name n) rules)) told_name_of told
          ∙ ap (list_any (λ (p : ToldRule). not (list_any (has_name p.0) rules))) listed
          ∙ any_flat (λ (p : ToldRule). not (list_any (has_name p.0) rules)) rules_told facts

      installed : list_any (λ r. not (holds told r)) rules ≡ list_any (λ r. not (tell facts r)) rules
      installed = λ i. list_any (λ r. not (one r i)) rules

  -- what is to be removed and installed is what they leave
  pub difference_told : (names : List (List ℕ)) (left : List RuleValue) → names ≡ flat_map (names_left rules) facts → left ≡ filter (λ r. not (tell facts r)) rules
      → record { removed = names; installed = left } ≡ difference (told_rules own) rules
  difference_told names left ns ls = λ i. record { removed = removed i; installed = installed i }
    where
      lacks : List ℕ → Bool
      lacks n = not (list_any (has_name n) rules)

      removed : names ≡ (difference told rules).removed
      removed = ns ∙ sym (ap (λ (t : List ToldRule). filter lacks (map told_name_of t)) listed ∙ kept_flat lacks told_name_of rules_told facts)

      installed : left ≡ (difference told rules).installed
      installed = ls ∙ sym (λ i. filter (λ r. not (one r i)) rules)

-- a difference by which nothing is to be removed or installed has nothing
pub nothing_left : (d : DeltaValue) → is_empty d ≡ true → d ≡ empty_delta
nothing_left d h =
    let entries : length d.removed + length d.installed ≡ 0 = grind (arith, nat_tests) in
    let names = nil_from_length d.removed (omega arith) in
    let left = nil_from_length d.installed (omega arith) in
    λ i. record { removed = names i; installed = left i }
