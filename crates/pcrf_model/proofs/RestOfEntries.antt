-- The first entries of a difference leave the rest of it as the next difference.
use Rattle.std.proofs.Common.{◌≡◌, ℕ, ◌-◌, true, not, List, ◌++◌, map, take, drop, length, inl, inr, refl, sym, ap, ◌∙◌, subst, filter, Less, Equal, Greater}
use Rattle.std.specs.Ordering.{is_lt, ordering_then}
use Rattle.std.specs.Cmp.{tied_itself}
use Rattle.pcrf_values.specs.Orders.{text_cmp}
use Rattle.pcrf_values.specs.RuleValues.{RuleValue, DeltaValue, rule_cmp}
use Rattle.pcrf_values.proofs.Plain.{clash, is_false, split, not_true}
use Rattle.pcrf_values.specs.Sets.{In, Same, Distinct}
use Rattle.pcrf_values.specs.ToldWords.{ToldRule}
use Rattle.pcrf_model.specs.Differences.{told_cmp, told_name_of, rule_name_of, IsTold, holds, difference, first, rest, as_told, stays, last_of_names, apply}
use Rattle.pcrf_values.proofs.SetLaws.{In-filter, filter-In, In-map, map-In}
use Rattle.pcrf_values.proofs.DistinctLaws.{take_or_drop, take-In, drop-In, not_in_both, Distinct-of_map, filter_past}
use Rattle.pcrf_values.proofs.OrderLaws.{text_ranked}
use Rattle.pcrf_values.proofs.AscendingLaws.{map-ascending, ascending-ascending, same_ascending, filter-ascending, drop-ascending, Distinct-ascending}
use Rattle.pcrf_values.specs.Ascending.{Rises}
use Rattle.pcrf_model.proofs.DifferenceLaws.{told_ranked, held, holds_one, stays_if, not_removed, not_installed, there, stays_in, installed_in, one_installed, lacks, removed-In, installed-In, lacks_none, same_rule, same_told, none_anew}

-- the name is below, where the entries are in order and no two have one name
name_below : (p q : ToldRule) → told_cmp p q ≡ Less → (p.0 ≡ q.0 → p ≡ q) → text_cmp p.0 q.0 ≡ Less
name_below p q l one = elim (text_cmp p.0 q.0) as (λ r. text_cmp p.0 q.0 ≡ r → ordering_then r (rule_cmp p.1 q.1) ≡ Less → r ≡ Less) [
  | Less ↦ λ _ _. refl
  | Equal ↦ λ e _. clash _ (ap is_lt l) (ap is_lt (ap (told_cmp p) (sym (one (text_ranked.same p.0 q.0 e))) ∙ tied_itself told_ranked.total p))
  | Greater ↦ λ _ m. m
] refl l

-- the names of entries in order are in order
names_ascending : (us : List ToldRule) → Rises told_cmp us → ((p q : ToldRule) → In p us → In q us → p.0 ≡ q.0 → p ≡ q) → Rises text_cmp (map told_name_of us)
names_ascending us s one = map-ascending told_cmp text_cmp told_name_of us (λ p q i j l. name_below p q l (one p q i j)) s

module _ (n : ℕ) (t : List ToldRule) (rs : List RuleValue) (w : IsTold t) (g : Distinct (map rule_name_of rs)) where
  -- all names to be removed
  abbrev removed : List (List ℕ)
  removed = (difference t rs).removed

  -- all rules to be installed
  abbrev installed : List RuleValue
  installed = (difference t rs).installed

  -- how many rules are among the first entries
  abbrev k : ℕ
  k = n - length removed

  -- the first entries
  abbrev e : DeltaValue
  e = first n (difference t rs)

  -- what is told after them
  abbrev u : List ToldRule
  u = apply t e

  -- ---- what is installed next

  -- a rule that was told is told still
  still : (x : RuleValue) → In x rs → holds t x ≡ true → holds u x ≡ true
  still x i h = holds_one u x (stays_in t e (as_told x) (held t x h)
      (stays_if t e (as_told x) (λ j. lacks_none t rs x i (removed-In t rs x.name (take-In n x.name removed j)).1)
      (none_anew t rs w.one_each g x i h e.installed (λ y j. take-In k y installed j))))

  -- so what is new afterwards was new
  was_new : (x : RuleValue) → In x rs → not (holds u x) ≡ true → not (holds t x) ≡ true
  was_new x i h = elim (split (holds t x)) [ inl y ↦ clash (holds u x) (still x i y) (not_true _ h) | inr y ↦ ap not y ]

  -- what is new afterwards was not installed
  none_installed : (x : RuleValue) → In x rs → not (holds u x) ≡ true → In x (take k installed) → ⊥
  none_installed x i h j = clash (holds u x) (holds_one u x (installed_in t e (one_installed t rs w.one_each g e.installed (λ y i. take-In k y installed i)) x j)) (not_true _ h)

  -- what was new and not installed is new still
  still_new : (x : RuleValue) → In x rs → not (holds t x) ≡ true → (In x (take k installed) → ⊥) → not (holds u x) ≡ true
  still_new x i h new = ap not (is_false (holds u x) (λ y. elim (there t e (as_told x) (held u x y)) [
    | inl r ↦ clash (holds t x) (holds_one t x r.0) (not_true _ h)
    | inr r ↦ new (subst (λ (z : RuleValue). In z (take k installed)) (sym (ap (λ (p : ToldRule). p.1) r.2)) r.1)
  ]))

  -- the rules past the first are installed next
  installed_next : (difference u rs).installed ≡ drop k installed
  installed_next = filter_past (λ x. not (holds t x)) (λ x. not (holds u x)) k rs (Distinct-of_map rule_name_of rs g) was_new none_installed still_new

  -- ---- what is removed next

  -- no two entries have one name
  one_name : (p q : ToldRule) → In p u → In q u → p.0 ≡ q.0 → p ≡ q
  one_name p q i j h = elim (there t e p i) [
    | inl r ↦ elim (there t e q j) [
      | inl s ↦ same_told t rs w.one_each g p q r.0 s.0 h
      | inr s ↦ absurd (not_installed t e p r.1 (named_by p s.0 s.1 (h ∙ ap (λ (z : ToldRule). z.0) s.2)))
    ]
    | inr r ↦ elim (there t e q j) [
      | inl s ↦ absurd (not_installed t e q s.1 (named_by q r.0 r.1 (sym h ∙ ap (λ (z : ToldRule). z.0) r.2)))
      | inr s ↦ r.2 ∙ ap as_told (same_rule t rs w.one_each g r.0 s.0 (in_rules r.0 r.1) (in_rules s.0 s.1) (sym (ap (λ (z : ToldRule). z.0) r.2) ∙ h ∙ ap (λ (z : ToldRule). z.0) s.2)) ∙ sym s.2
    ]
  ]
    where
      in_rules : (x : RuleValue) → In x (take k installed) → In x rs
      in_rules x m = (installed-In t rs x (take-In k x installed m)).0

      named_by : (p : ToldRule) (x : RuleValue) → In x (take k installed) → p.0 ≡ x.name → In p.0 (map rule_name_of (take k installed))
      named_by p x m q = subst (λ (z : List ℕ). In z (map rule_name_of (take k installed))) (sym q) (In-map rule_name_of x (take k installed) m)

  -- the names told before are in order
  old_names : Rises text_cmp (map told_name_of t)
  old_names = names_ascending t (subst (Rises told_cmp) w.in_order (ascending-ascending told_cmp told_ranked t)) (same_told t rs w.one_each g)

  -- the names told after are in order
  new_names : Rises text_cmp (map told_name_of u)
  new_names = names_ascending u (ascending-ascending told_cmp told_ranked (filter (stays e) t ++ map as_told (last_of_names e.installed))) one_name

  -- the names to be removed are in order
  removed_ascending : Rises text_cmp removed
  removed_ascending = filter-ascending text_cmp (lacks t rs) (map told_name_of t) old_names

  -- the rules lack afterwards just the names past the first
  same_removed : Same (filter (lacks t rs) (map told_name_of u)) (drop n removed)
  same_removed x = (onward, backward)
    where
      onward : In x (filter (lacks t rs) (map told_name_of u)) → In x (drop n removed)
      onward h =
          let r = filter-In (lacks t rs) x (map told_name_of u) h in
          let p = map-In told_name_of x u r.0 in
          elim (there t e p.0 p.1) [
            | inl s ↦ elim (take_or_drop n x removed (In-filter (lacks t rs) x (map told_name_of t) (subst (λ (z : List ℕ). In z (map told_name_of t)) (sym p.2) (In-map told_name_of p.0 t s.0)) r.1)) [
              | inl i ↦ absurd (not_removed t e p.0 s.1 (subst (λ (z : List ℕ). In z (take n removed)) p.2 i))
              | inr i ↦ i
            ]
            | inr s ↦ absurd (lacks_none t rs s.0 (installed-In t rs s.0 (take-In k s.0 installed s.1)).0 (subst (λ (z : List ℕ). lacks t rs z ≡ true) (p.2 ∙ ap (λ (z : ToldRule). z.0) s.2) r.1))
          ]

      backward : In x (drop n removed) → In x (filter (lacks t rs) (map told_name_of u))
      backward h =
          let r = removed-In t rs x (drop-In n x removed h) in
          let p = map-In told_name_of x t r.0 in
          let gone : In p.0.0 (take n removed) → ⊥ = λ i. not_in_both n x removed (Distinct-ascending text_cmp text_ranked removed removed_ascending) (subst (λ (z : List ℕ). In z (take n removed)) (sym p.2) i) h in
          let new : In p.0.0 (map rule_name_of e.installed) → ⊥ = λ i.
          let s = map-In rule_name_of p.0.0 e.installed i in
          lacks_none t rs s.0 (installed-In t rs s.0 (take-In k s.0 installed s.1)).0 (subst (λ (z : List ℕ). lacks t rs z ≡ true) (p.2 ∙ s.2) r.1) in
          In-filter (lacks t rs) x (map told_name_of u)
          (subst (λ (z : List ℕ). In z (map told_name_of u)) (sym p.2) (In-map told_name_of p.0 u (stays_in t e p.0 p.1 (stays_if t e p.0 gone new))))
          r.1

  -- so the names past the first are removed next
  removed_next : (difference u rs).removed ≡ drop n removed
  removed_next = same_ascending text_cmp text_ranked _ _ (filter-ascending text_cmp (lacks t rs) (map told_name_of u) new_names) (drop-ascending text_cmp n removed removed_ascending) same_removed

  -- so the next difference is the rest
  pub difference-first : difference (apply t (first n (difference t rs))) rs ≡ rest n (difference t rs)
  difference-first = λ i. record { removed = removed_next i; installed = installed_next i }
