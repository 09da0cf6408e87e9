-- What a state holds has groups of the form, and the groups of its facts are these.
use Rattle.std.proofs.Common.{◌≡◌, ℕ, ◌⊎◌, Bool, true, false, not, ◌&&◌, nat_le, List, [], ◌∷◌, ◌++◌, length, map, inl, inr, refl, sym, ap, ◌∙◌, subst, arith, Ordering, Less, Equal, Greater}
use Rattle.std.specs.Ordering.{ordering_then, is_eq, is_lt}
use Rattle.std.specs.Option.{option_cmp}
use Rattle.std.specs.Cmp.{first_so, second_so, tied_itself}
use Rattle.std.specs.List.{list_any, list_all}
use Rattle.pcrf_values.specs.Ascending.{Rises}
use Rattle.pcrf_values.specs.Sets.{In}
use Rattle.pcrf_values.proofs.Plain.{both, clash, is_false}
use Rattle.pcrf_values.proofs.OrderLaws.{eq_is, eq_itself}
use Rattle.pcrf_values.proofs.SetLaws.{In-left, In-map, map-In, any-none}
use Rattle.pcrf_values.specs.Places.{OfSession, OfComponent, OfFlow, OfRuleName, Component, Flow, position_cmp}
use Rattle.pcrf_values.specs.Values.{entry_cmp}
use Rattle.pcrf_values.specs.Facts.{Fact, End, Removed, Field, position, entry, fact_cmp, is_shaded_by}
use Rattle.pcrf_values.specs.Limits.{last_counter}
use Rattle.pcrf_model.specs.Sessions.{Session, session_cmp}
use Rattle.pcrf_model.specs.Holdings.{SessionFact, session_fact_cmp, is_shaded_there_by, kept_facts, under, Holding, kept_of}
use Rattle.pcrf_model.specs.Forms.{is_session, is_rising, stand_together, fits, is_counted, is_held, is_holding}
use Rattle.pcrf_model.proofs.HoldingLaws.{session_ranked, shades_there, kept_facts-In, sorted-In, In-under}
use Rattle.pcrf_model.proofs.FormReading.{each_passes}
use Rattle.pcrf_model.proofs.FormLaws.{all_pass, le_passes, test_by_rises, form_by_test}
use Rattle.lattice_core.proofs.KeepLaws.{same_position}
use Rattle.site_join.specs.Groups.{Group, facts_of_groups, is_group, are_groups, with_first, groups_of_facts}
use Rattle.site_join.proofs.GroupLaws.{AreGroups, of_groups}
use Rattle.site_join.proofs.HeldGroups.{groups_by_test}

-- ---- positions of facts of which none overshadows another

-- the lesser of two facts stands before the other, if that does not overshadow it
position_less : (f g : Fact) → fact_cmp f g ≡ Less → is_shaded_by f g ≡ false → position_cmp (position f) (position g) ≡ Less
position_less f g l h = by_order (position_cmp (position f) (position g)) refl
  where
    by_order : (o : Ordering) → position_cmp (position f) (position g) ≡ o → position_cmp (position f) (position g) ≡ Less
    by_order Less e = e
    by_order Equal e = clash (is_shaded_by f g) (same_position f g e l) h
    by_order Greater e =
        let past : Greater ≡ Less = sym (ap (λ o. ordering_then o (option_cmp entry_cmp (entry f) (entry g))) e) ∙ l in
        absurd (cc)

-- and positions rise with such facts
positions_rise : (fs : List Fact) → Rises fact_cmp fs → ((f g : Fact) → In f fs → In g fs → is_shaded_by f g ≡ false) → Rises position_cmp (map position fs)
positions_rise [] r h = tt
positions_rise (f ∷ fs) r h = (
  λ p i. let m = map-In position p fs i in ap (position_cmp (position f)) m.2 ∙ position_less f m.0 (r.0 m.0 m.1) (h f m.0 (inl refl) (inr m.1)),
  positions_rise fs r.1 (λ g k i j. h g k (inr i) (inr j)),
)

-- ---- parts of what rises

-- the first of two lists
rises_left : {A : Type 0} (cmp : A → A → Ordering) (xs ys : List A) → Rises cmp (xs ++ ys) → Rises cmp xs
rises_left cmp [] ys r = tt
rises_left cmp (x ∷ xs) ys r = (λ y i. r.0 y (In-left y xs ys i), rises_left cmp xs ys r.1)

-- and the second
rises_right : {A : Type 0} (cmp : A → A → Ordering) (xs ys : List A) → Rises cmp (xs ++ ys) → Rises cmp ys
rises_right cmp [] ys r = r
rises_right cmp (x ∷ xs) ys r = rises_right cmp xs ys r.1

-- facts of one session
under_back : (s : Session) (fs : List Fact) → Rises session_fact_cmp (under s fs) → Rises fact_cmp fs
under_back s [] r = tt
under_back s (f ∷ fs) r = (
  λ g i. sym (ap (λ o. ordering_then o (fact_cmp f g)) (tied_itself session_ranked.total s)) ∙ r.0 (s, g) (In-under s g fs i),
  under_back s fs r.1,
)

-- the facts of each group rise where all do
group_rises : (gs : List Group) → Rises session_fact_cmp (facts_of_groups gs) → (g : Group) → In g gs → Rises fact_cmp g.1
group_rises [] r g i = absurd i
group_rises (k ∷ gs) r g (inl e) = subst (λ (x : Group). Rises fact_cmp x.1) (sym e) (under_back k.0 k.1 (rises_left session_fact_cmp (under k.0 k.1) (facts_of_groups gs) r))
group_rises (k ∷ gs) r g (inr i) = group_rises gs (rises_right session_fact_cmp (under k.0 k.1) (facts_of_groups gs) r) g i

-- a list that is not empty has a member
a_member : (fs : List Fact) → nat_le 1 (length fs) ≡ true → (f : Fact) × In f fs
a_member [] h = absurd (cc)
a_member (f ∷ fs) h = (f, inl refl)

-- ---- the groups of what is held

module _ (h : Holding) (form : is_holding h ≡ true) (kept : kept_of h ≡ h) (gs : List Group) (are : AreGroups gs) (is : facts_of_groups gs ≡ h.facts) where
  -- none overshadows another
  bare : (x y : SessionFact) → In x h.facts → In y h.facts → is_shaded_there_by x y ≡ false
  bare x y i j =
      let there : In x (kept_of h).facts = subst (λ (k : Holding). In x k.facts) (sym kept) i in
      (kept_facts-In x h.facts ((sorted-In (kept_facts h.facts) x).0 there)).1 y j

  -- the facts of a group are held
  its_fact : (g : Group) → In g gs → (f : Fact) → In f g.1 → In (g.0, f) h.facts
  its_fact g i f j = subst (λ (l : List SessionFact). In (g.0, f) l) is (of_groups gs g f i j)

  its_form : (g : Group) → In g gs → (f : Fact) → In f g.1 → is_held h.clock (g.0, f) ≡ true
  its_form g i f j = (form_by_test h form).held (g.0, f) (its_fact g i f j)

  -- on one session too
  bare_here : (g : Group) → In g gs → (f k : Fact) → In f g.1 → In k g.1 → is_shaded_by f k ≡ false
  bare_here g i f k a b = is_false (is_shaded_by f k) (λ shaded. clash (is_shaded_there_by (g.0, f) (g.0, k)) (shades_there g.0 f k shaded) (bare (g.0, f) (g.0, k) (its_fact g i f a) (its_fact g i k b)))

  -- each group is of the form
  group_formed : (g : Group) → In g gs → is_group h.clock g ≡ true
  group_formed g i =
      let some = each_passes (λ (k : Group). nat_le 1 (length k.1)) gs are.some g i in
      let member = a_member g.1 some in
      let all = subst (λ (l : List SessionFact). Rises session_fact_cmp l) (sym is) (form_by_test h form).rises in
      let rising = test_by_rises position_cmp (map position g.1) (positions_rise g.1 (group_rises gs all g i) (bare_here g i)) in
      let apart = any-none (λ f. list_any (is_shaded_by f) g.1) g.1 (λ f a. any-none (is_shaded_by f) g.1 (λ k b. bare_here g i f k a b)) in
      let together : stand_together g.1 ≡ true = both _ _ (both _ _ some rising) (ap not apart) in
      let first = its_form g i member.0 member.1 in
      let session : is_session g.0 ≡ true = first_so (is_session g.0) (fits g.0.kind member.0) (first_so (is_session g.0 && fits g.0.kind member.0) (is_counted g.0.kind h.clock member.0) first) in
      both (is_session g.0 && stand_together g.1) (list_all (λ f. fits g.0.kind f && is_counted g.0.kind h.clock f) g.1)
      (both (is_session g.0) (stand_together g.1) session together)
      (all_pass (λ f. fits g.0.kind f && is_counted g.0.kind h.clock f) g.1 (λ f a.
      let its = its_form g i f a in
      both (fits g.0.kind f) (is_counted g.0.kind h.clock f)
      (second_so (is_session g.0) (fits g.0.kind f) (first_so (is_session g.0 && fits g.0.kind f) (is_counted g.0.kind h.clock f) its))
      (second_so (is_session g.0 && fits g.0.kind f) (is_counted g.0.kind h.clock f) its)))

  -- So all are.
  pub groups_formed : are_groups h.clock gs ≡ true
  groups_formed =
      both (nat_le h.clock last_counter && is_rising session_cmp (map (λ (g : Group). g.0) gs)) (list_all (is_group h.clock) gs)
      (both (nat_le h.clock last_counter) (is_rising session_cmp (map (λ (g : Group). g.0) gs)) (le_passes h.clock last_counter (form_by_test h form).clock) are.rise)
      (all_pass (is_group h.clock) gs group_formed)

-- ---- the groups of facts

-- facts of one session before groups of others make one more group
with_all : (s : Session) (f : Fact) (fs : List Fact) (rest : List SessionFact) (gs : List Group) → groups_of_facts rest ≡ gs → ((g : Group) → In g gs → session_cmp s g.0 ≡ Less)
    → groups_of_facts (under s (f ∷ fs) ++ rest) ≡ (s, f ∷ fs) ∷ gs
with_all s f [] rest [] e low = ap (with_first (s, f)) e
with_all s f [] rest (g ∷ gs) e low =
    let before = low g (inl refl) in
    ap (with_first (s, f)) e ∙ (rw before refl)
with_all s f (k ∷ fs) rest gs e low =
    let tied = tied_itself session_ranked.total s in
    ap (with_first (s, f)) (with_all s k fs rest gs e low) ∙ (rw tied refl)

-- Groups that rise, each with a fact, are those of their facts.
pub grouped_again : (gs : List Group) → list_all (λ g. nat_le 1 (length g.1)) gs ≡ true → Rises session_cmp (map (λ (g : Group). g.0) gs) → groups_of_facts (facts_of_groups gs) ≡ gs
grouped_again [] some r = refl
grouped_again ((s, []) ∷ gs) some r = absurd (cc)
grouped_again ((s, f ∷ fs) ∷ gs) some r =
    with_all s f fs (facts_of_groups gs) gs (grouped_again gs (second_so _ _ some) r.1) (λ g i. r.0 g.0 (In-map (λ (k : Group). k.0) g gs i))

-- groups of the form are those of their facts
pub formed_again : (clock : ℕ) (gs : List Group) → are_groups clock gs ≡ true → groups_of_facts (facts_of_groups gs) ≡ gs
formed_again clock gs w =
    let form = groups_by_test clock gs w in
    grouped_again gs (all_pass (λ (g : Group). nat_le 1 (length g.1)) gs (λ g i. (form.each g i).some)) form.rise

-- the facts of a fact before groups
ungrouped_first : (x : SessionFact) (gs : List Group) → facts_of_groups (with_first x gs) ≡ x ∷ facts_of_groups gs
ungrouped_first x [] = refl
ungrouped_first x (g ∷ gs) = by_test (is_eq (session_cmp x.0 g.0)) refl
  where
    by_test : (b : Bool) → is_eq (session_cmp x.0 g.0) ≡ b → facts_of_groups (with_first x (g ∷ gs)) ≡ x ∷ facts_of_groups (g ∷ gs)
    by_test true e = rw e (ap (λ (s : Session). (s, x.1) ∷ facts_of_groups (g ∷ gs)) (sym (eq_is session_ranked x.0 g.0 e)))
    by_test false e = rw e refl

-- facts are those of their groups
pub ungrouped_again : (xs : List SessionFact) → facts_of_groups (groups_of_facts xs) ≡ xs
ungrouped_again [] = refl
ungrouped_again (x ∷ xs) = ungrouped_first x (groups_of_facts xs) ∙ ap (λ (l : List SessionFact). x ∷ l) (ungrouped_again xs)

-- each of these has a fact
some_first : (x : SessionFact) (gs : List Group) → list_all (λ g. nat_le 1 (length g.1)) gs ≡ true → list_all (λ g. nat_le 1 (length g.1)) (with_first x gs) ≡ true
some_first x [] h = refl
some_first x (g ∷ gs) h = by_test (is_eq (session_cmp x.0 g.0)) refl
  where
    by_test : (b : Bool) → is_eq (session_cmp x.0 g.0) ≡ b → list_all (λ g. nat_le 1 (length g.1)) (with_first x (g ∷ gs)) ≡ true
    by_test true e = rw e (both _ _ (le_passes 1 (length (x.1 ∷ g.1)) (omega arith)) (second_so _ _ h))
    by_test false e = rw e (both _ _ (le_passes 1 (length (x.1 ∷ [])) (omega arith)) h)

grouped_some : (xs : List SessionFact) → list_all (λ g. nat_le 1 (length g.1)) (groups_of_facts xs) ≡ true
grouped_some [] = refl
grouped_some (x ∷ xs) = some_first x (groups_of_facts xs) (grouped_some xs)

-- and they rise where the facts do
first_rises : (x : SessionFact) (gs : List Group) → ((k : Group) → In k gs → (session_cmp x.0 k.0 ≡ Less) ⊎ (x.0 ≡ k.0)) → Rises session_cmp (map (λ (k : Group). k.0) gs)
    → Rises session_cmp (map (λ (k : Group). k.0) (with_first x gs))
first_rises x [] low r = (λ s i. absurd i, tt)
first_rises x (g ∷ gs) low r = by_test (is_eq (session_cmp x.0 g.0)) refl
  where
    before : is_eq (session_cmp x.0 g.0) ≡ false → session_cmp x.0 g.0 ≡ Less
    before e = elim (low g (inl refl)) [
      | inl less ↦ less
      | inr same ↦ clash (is_eq (session_cmp x.0 g.0)) (ap (λ (s : Session). is_eq (session_cmp s g.0)) same ∙ eq_itself session_ranked g.0) e
    ]

    by_test : (b : Bool) → is_eq (session_cmp x.0 g.0) ≡ b → Rises session_cmp (map (λ (k : Group). k.0) (with_first x (g ∷ gs)))
    by_test true e = rw e r
    by_test false e = rw e (
      λ s i. elim i [
        | inl same ↦ ap (session_cmp x.0) same ∙ before e
        | inr j ↦ session_ranked.total.trans x.0 g.0 s (before e) (r.0 s j)
      ],
      r,
    )

grouped_rises : (xs : List SessionFact) → Rises session_fact_cmp xs → Rises session_cmp (map (λ (k : Group). k.0) (groups_of_facts xs))
grouped_rises [] r = tt
grouped_rises (x ∷ xs) r = first_rises x (groups_of_facts xs) low (grouped_rises xs r.1)
  where
    by_order : (s : Session) (f : Fact) (o : Ordering) → session_cmp x.0 s ≡ o → session_fact_cmp x (s, f) ≡ Less → (session_cmp x.0 s ≡ Less) ⊎ (x.0 ≡ s)
    by_order s f Less e l = inl e
    by_order s f Equal e l = inr (eq_is session_ranked x.0 s (ap is_eq e))
    by_order s f Greater e l =
        let past : Greater ≡ Less = sym (ap (λ o. ordering_then o (fact_cmp x.1 f)) e) ∙ l in
        absurd (cc)

    low : (k : Group) → In k (groups_of_facts xs) → (session_cmp x.0 k.0 ≡ Less) ⊎ (x.0 ≡ k.0)
    low k i =
        let member = a_member k.1 (each_passes (λ (g : Group). nat_le 1 (length g.1)) (groups_of_facts xs) (grouped_some xs) k i) in
        let there : In (k.0, member.0) xs = subst (λ (l : List SessionFact). In (k.0, member.0) l) (ungrouped_again xs) (of_groups (groups_of_facts xs) k member.0 i member.1) in
        by_order k.0 member.0 (session_cmp x.0 k.0) refl (r.0 (k.0, member.0) there)

-- So what a state holds has groups of the form.
pub held_formed : (h : Holding) → is_holding h ≡ true → kept_of h ≡ h → are_groups h.clock (groups_of_facts h.facts) ≡ true
held_formed h form kept =
    groups_formed h form kept (groups_of_facts h.facts)
    (record { some = grouped_some h.facts; rise = test_by_rises session_cmp (map (λ (k : Group). k.0) (groups_of_facts h.facts)) (grouped_rises h.facts (form_by_test h form).rises) })
    (ungrouped_again h.facts)
