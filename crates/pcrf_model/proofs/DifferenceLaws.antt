-- What a difference leads to, and what its first entries leave of it.
use Rattle.std.proofs.Common.{◌≡◌, ℕ, Bool, true, false, cond, not, ◌&&◌, List, [], ◌∷◌, ◌++◌, map, ◌⊎◌, inl, inr, refl, sym, ap, ◌∙◌, subst, filter}
use Rattle.std.specs.Ordering.{is_eq}
use Rattle.std.specs.Cmp.{first_so, second_so}
use Rattle.std.specs.List.{list_any}
use Rattle.pcrf_values.specs.Orders.{text_cmp}
use Rattle.pcrf_values.specs.Ascending.{ascending}
use Rattle.pcrf_values.specs.RuleValues.{RuleValue, DeltaValue, rule_cmp}
use Rattle.pcrf_values.proofs.Plain.{clash, is_false, split, not_true, both}
use Rattle.pcrf_values.specs.Sets.{In, Same, Distinct}
use Rattle.pcrf_values.specs.ToldWords.{ToldRule}
use Rattle.pcrf_model.specs.Differences.{told_cmp, told_name_of, rule_name_of, has_name, holds, difference, as_told, stays, last_of_names, apply}
use Rattle.pcrf_values.proofs.SetLaws.{In-left, In-right, In-cases, In-filter, filter-In, In-any, any-In, any-none, In-map, map-In}
use Rattle.pcrf_values.proofs.DistinctLaws.{one_of_key}
use Rattle.pcrf_values.proofs.OrderLaws.{IsRanked, text_ranked, pair_ranked, eq_is, eq_itself}
use Rattle.pcrf_values.proofs.FactLaws.{rule_ranked}
use Rattle.pcrf_values.proofs.AscendingLaws.{ascending-In, ascending-ascending, same_ascending}

-- told entries are ranked
pub told_ranked : IsRanked told_cmp
told_ranked = pair_ranked text_ranked rule_ranked

-- ---- names among lists

-- the test finds a name just where it stands
named : (n : List ℕ) (ns : List (List ℕ)) → In n ns → list_any (λ m. is_eq (text_cmp m n)) ns ≡ true
named n ns i = In-any (λ m. is_eq (text_cmp m n)) n ns i (eq_itself text_ranked n)

-- and not where it does not stand
unnamed : (n : List ℕ) (ns : List (List ℕ)) → (In n ns → ⊥) → list_any (λ m. is_eq (text_cmp m n)) ns ≡ false
unnamed n ns h = any-none (λ m. is_eq (text_cmp m n)) ns (λ m i. is_false _ (λ e. h (subst (λ (z : List ℕ). In z ns) (eq_is text_ranked m n e) i)))

-- the test finds a rule's name just where a rule has it
has_one : (r : RuleValue) (rs : List RuleValue) → In r rs → list_any (has_name r.name) rs ≡ true
has_one r rs i = In-any (has_name r.name) r rs i (eq_itself text_ranked r.name)

-- and not where none has it
pub has_none : (n : List ℕ) (rs : List RuleValue) → (In n (map rule_name_of rs) → ⊥) → list_any (has_name n) rs ≡ false
has_none n rs h = any-none (has_name n) rs (λ r i. is_false _ (λ e. h (subst (λ (z : List ℕ). In z (map rule_name_of rs)) (eq_is text_ranked r.name n e) (In-map rule_name_of r rs i))))

-- and then some rule has it
who_has : (n : List ℕ) (rs : List RuleValue) → list_any (has_name n) rs ≡ true → (r : RuleValue) × In r rs × (r.name ≡ n)
who_has n rs h = let w = any-In (has_name n) rs h in (w.0, w.1, eq_is text_ranked w.0.name n w.2)

-- a rule is held just where it stands under its name
pub held : (t : List ToldRule) (x : RuleValue) → holds t x ≡ true → In (as_told x) t
held t x h =
    let r = any-In (λ (p : ToldRule). is_eq (text_cmp p.0 x.name) && is_eq (rule_cmp p.1 x)) t h in
    let n = eq_is text_ranked r.0.0 x.name (first_so _ _ r.2) in
    let b = eq_is rule_ranked r.0.1 x (second_so (is_eq (text_cmp r.0.0 x.name)) _ r.2) in
    subst (λ (p : ToldRule). In p t) (λ i. (n i, b i)) r.1

-- and then it is held
pub holds_one : (t : List ToldRule) (x : RuleValue) → In (as_told x) t → holds t x ≡ true
holds_one t x i = In-any (λ (p : ToldRule). is_eq (text_cmp p.0 x.name) && is_eq (rule_cmp p.1 x)) (as_told x) t i (both _ _ (eq_itself text_ranked x.name) (eq_itself rule_ranked x))

-- ---- the last rule of each name

-- it is one of the rules
last-In : (x : RuleValue) (rs : List RuleValue) → In x (last_of_names rs) → In x rs
last-In x [] i = i
last-In x (r ∷ rs) i = elim (list_any (has_name r.name) rs) as (λ b. In x (cond b (last_of_names rs) (r ∷ last_of_names rs)) → In x (r ∷ rs)) [
  | true ↦ λ j. inr (last-In x rs j)
  | false ↦ λ j. elim j [ inl e ↦ inl e | inr k ↦ inr (last-In x rs k) ]
] i

-- where rules of one name are one, each of them is the last of its name
pub last-is : (rs : List RuleValue) → ((a b : RuleValue) → In a rs → In b rs → a.name ≡ b.name → a ≡ b) → (x : RuleValue) → In x rs → In x (last_of_names rs)
last-is [] one x i = i
last-is (r ∷ rs) one x i =
    let later : In x rs → In x (last_of_names rs) = last-is rs (λ a b j k. one a b (inr j) (inr k)) x in
    elim (split (list_any (has_name r.name) rs)) [
      | inl y ↦ subst (λ (b : Bool). In x (cond b (last_of_names rs) (r ∷ last_of_names rs))) (sym y) (later (elim i [
        | inl e ↦ let w = who_has r.name rs y in subst (λ (z : RuleValue). In z rs) (one w.0 r (inr w.1) (inl refl) w.2 ∙ sym e) w.1
        | inr j ↦ j
      ]))
      | inr n ↦ subst (λ (b : Bool). In x (cond b (last_of_names rs) (r ∷ last_of_names rs))) (sym n) (elim i [ inl e ↦ inl e | inr j ↦ inr (later j) ])
    ]

-- ---- what stays, and what is there after a difference

module _ (t : List ToldRule) (d : DeltaValue) where
  -- an entry stays that is neither removed nor installed anew
  pub stays_if : (p : ToldRule) → (In p.0 d.removed → ⊥) → (In p.0 (map rule_name_of d.installed) → ⊥) → stays d p ≡ true
  stays_if p a b = both _ _ (ap not (unnamed p.0 d.removed a)) (ap not (has_none p.0 d.installed b))

  -- what stays is not removed
  pub not_removed : (p : ToldRule) → stays d p ≡ true → In p.0 d.removed → ⊥
  not_removed p s i = clash _ (named p.0 d.removed i) (not_true _ (first_so _ _ s))

  -- nor installed anew
  pub not_installed : (p : ToldRule) → stays d p ≡ true → In p.0 (map rule_name_of d.installed) → ⊥
  not_installed p s i =
      let r = map-In rule_name_of p.0 d.installed i in
      clash (list_any (has_name p.0) d.installed)
      (In-any (has_name p.0) r.0 d.installed r.1 (ap (λ (z : List ℕ). is_eq (text_cmp r.0.name z)) r.2 ∙ eq_itself text_ranked r.0.name))
      (not_true _ (second_so (not (list_any (λ n. is_eq (text_cmp n p.0)) d.removed)) _ s))

  -- what is there afterwards stayed, or was installed
  pub there : (p : ToldRule) → In p (apply t d) → (In p t × (stays d p ≡ true)) ⊎ ((r : RuleValue) × In r d.installed × (p ≡ as_told r))
  there p i = elim (In-cases p (filter (stays d) t) (map as_told (last_of_names d.installed)) ((ascending-In told_cmp told_ranked (filter (stays d) t ++ map as_told (last_of_names d.installed)) p).0 i)) [
    | inl j ↦ inl (filter-In (stays d) p t j)
    | inr j ↦ let r = map-In as_told p (last_of_names d.installed) j in inr (r.0, last-In r.0 d.installed r.1, r.2)
  ]

  -- both are there
  put_in : (p : ToldRule) → In p (filter (stays d) t ++ map as_told (last_of_names d.installed)) → In p (apply t d)
  put_in p = (ascending-In told_cmp told_ranked (filter (stays d) t ++ map as_told (last_of_names d.installed)) p).1

  -- what stays is there
  pub stays_in : (p : ToldRule) → In p t → stays d p ≡ true → In p (apply t d)
  stays_in p i s = put_in p (In-left p (filter (stays d) t) (map as_told (last_of_names d.installed)) (In-filter (stays d) p t i s))

  -- what is installed is there, where rules of one name are one
  pub installed_in : ((a b : RuleValue) → In a d.installed → In b d.installed → a.name ≡ b.name → a ≡ b) → (r : RuleValue) → In r d.installed → In (as_told r) (apply t d)
  installed_in one r i = put_in (as_told r)
      (In-right (as_told r) (filter (stays d) t) (map as_told (last_of_names d.installed)) (In-map as_told r (last_of_names d.installed) (last-is d.installed one r i)))

-- ---- the difference of told entries and rules

module _ (t : List ToldRule) (rs : List RuleValue) where
  -- the rules lack the name
  abbrev pub lacks : List ℕ → Bool
  lacks n = not (list_any (has_name n) rs)

  -- the rule was not told just so
  abbrev pub is_new : RuleValue → Bool
  is_new x = not (holds t x)

  -- a name to be removed was told, and the rules lack it
  pub removed-In : (n : List ℕ) → In n (difference t rs).removed → In n (map told_name_of t) × (lacks n ≡ true)
  removed-In n = filter-In lacks n (map told_name_of t)

  -- a rule to be installed is one of the rules, and is new
  pub installed-In : (x : RuleValue) → In x (difference t rs).installed → In x rs × (is_new x ≡ true)
  installed-In x = filter-In is_new x rs

  -- a name of the rules is not lacking
  pub lacks_none : (x : RuleValue) → In x rs → lacks x.name ≡ true → ⊥
  lacks_none x i h = clash _ (has_one x rs i) (not_true _ h)

  -- no name is both removed and installed
  pub no_name_twice : (n : List ℕ) → In n (difference t rs).removed → In n (map rule_name_of (difference t rs).installed) → ⊥
  no_name_twice n i j =
      let r = map-In rule_name_of n (difference t rs).installed j in
      lacks_none r.0 (installed-In r.0 r.1).0 (subst (λ (m : List ℕ). lacks m ≡ true) r.2 (removed-In n i).1)

  module _ (f : Distinct (map told_name_of t)) (g : Distinct (map rule_name_of rs)) where
    -- rules of one name are one
    pub same_rule : (x y : RuleValue) → In x rs → In y rs → x.name ≡ y.name → x ≡ y
    same_rule = one_of_key rule_name_of rs g

    -- told entries of one name are one
    pub same_told : (p q : ToldRule) → In p t → In q t → p.0 ≡ q.0 → p ≡ q
    same_told = one_of_key told_name_of t f

    -- and so are those of them that are installed
    pub one_installed : (ins : List RuleValue) → ((y : RuleValue) → In y ins → In y (difference t rs).installed) → (a b : RuleValue) → In a ins → In b ins → a.name ≡ b.name → a ≡ b
    one_installed ins part a b i j = same_rule a b (installed-In a (part a i)).0 (installed-In b (part b j)).0

    -- of a rule that was told no other is installed under its name
    pub none_anew : (x : RuleValue) → In x rs → holds t x ≡ true → (ins : List RuleValue) → ((y : RuleValue) → In y ins → In y (difference t rs).installed) → In x.name (map rule_name_of ins) → ⊥
    none_anew x i h ins part j =
        let r = map-In rule_name_of x.name ins j in
        let k = installed-In r.0 (part r.0 r.1) in
        clash (holds t x) h (ap (holds t) (same_rule x r.0 i k.0 r.2) ∙ not_true _ k.1)

    -- ---- the whole difference

    -- an entry that stays is one of the rules
    stays_rule : (q : ToldRule) → In q t → stays (difference t rs) q ≡ true → In q (map as_told rs)
    stays_rule q i s = elim (split (list_any (has_name q.0) rs)) [
      | inl y ↦
          let r = who_has q.0 rs y in
          elim (split (holds t r.0)) [
            | inl h ↦ subst (λ (p : ToldRule). In p (map as_told rs)) (same_told (as_told r.0) q (held t r.0 h) i r.2) (In-map as_told r.0 rs r.1)
            | inr h ↦ clash (list_any (has_name q.0) (difference t rs).installed)
                (In-any (has_name q.0) r.0 (difference t rs).installed (In-filter is_new r.0 rs r.1 (ap not h)) (ap (λ (m : List ℕ). is_eq (text_cmp m q.0)) r.2 ∙ eq_itself text_ranked q.0))
                (not_true _ (second_so (not (list_any (λ n. is_eq (text_cmp n q.0)) (difference t rs).removed)) _ s))
          ]
      | inr y ↦ absurd (not_removed t (difference t rs) q s (In-filter lacks q.0 (map told_name_of t) (In-map told_name_of q t i) (ap not y)))
    ]

    -- after the whole difference just the rules are there
    same_pairs : Same (apply t (difference t rs)) (map as_told rs)
    same_pairs q = (
      λ h. elim (there t (difference t rs) q h) [
        | inl r ↦ stays_rule q r.0 r.1
        | inr r ↦ subst (λ (p : ToldRule). In p (map as_told rs)) (sym r.2) (In-map as_told r.0 rs (installed-In r.0 r.1).0)
      ],
      λ h. let r = map-In as_told q rs h in subst (λ (p : ToldRule). In p (apply t (difference t rs))) (sym r.2) (back r.0 r.1),
    )
      where
        back : (x : RuleValue) → In x rs → In (as_told x) (apply t (difference t rs))
        back x i = elim (split (holds t x)) [
          | inl h ↦ stays_in t (difference t rs) (as_told x) (held t x h)
              (stays_if t (difference t rs) (as_told x) (λ j. lacks_none x i (removed-In x.name j).1) (none_anew x i h (difference t rs).installed (λ y j. j)))
          | inr h ↦ installed_in t (difference t rs) (one_installed (difference t rs).installed (λ y j. j)) x (In-filter is_new x rs i (ap not h))
        ]

    -- and so the told entries are the rules
    pub apply-difference : apply t (difference t rs) ≡ ascending told_cmp (map as_told rs)
    apply-difference =
        same_ascending told_cmp told_ranked _ _ (ascending-ascending told_cmp told_ranked (filter (stays (difference t rs)) t ++ map as_told (last_of_names (difference t rs).installed))) (ascending-ascending told_cmp told_ranked (map as_told rs))
        (λ p. (λ h. (ascending-In told_cmp told_ranked (map as_told rs) p).1 ((same_pairs p).0 h), λ h. (same_pairs p).1 ((ascending-In told_cmp told_ranked (map as_told rs) p).0 h)))
