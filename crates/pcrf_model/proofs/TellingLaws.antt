-- What a view shows once a gateway was told more of a session: the fields and the rules stay, and the told entries are those that were told, with the more applied.
use Rattle.std.proofs.Common.{◌≡◌, ℕ, Bool, true, false, cond, not, List, [], ◌∷◌, ◌++◌, map, ◌⊎◌, Option, Some, None, inl, inr, refl, sym, ap, ◌∙◌, subst, option_and_then, Less}
use Rattle.std.specs.Ordering.{is_eq}
use Rattle.std.specs.List.{list_any, filter, filter_map, cons_option}
use Rattle.std.proofs.lemmas.List.Elements.{filter_map-append}
use Rattle.pcrf_values.specs.Ascending.{ascending, Rises}
use Rattle.pcrf_values.specs.Orders.{text_cmp}
use Rattle.pcrf_values.specs.Sets.{In, Same}
use Rattle.pcrf_values.specs.Tags.{tag_cmp}
use Rattle.pcrf_values.specs.declared.tag.Tag.{Tag}
use Rattle.pcrf_values.proofs.Plain.{clash, split, not_true}
use Rattle.pcrf_values.proofs.OrderLaws.{text_ranked, eq_is, eq_itself}
use Rattle.pcrf_values.proofs.SetLaws.{In-left, In-cases, In-filter, filter-In, In-any, any-In, In-map, map-In}
use Rattle.pcrf_values.proofs.AscendingLaws.{ascending-ascending, ascending-Same, same_ascending, filter-ascending}
use Rattle.pcrf_values.specs.RuleValues.{RuleValue, DeltaValue}
use Rattle.pcrf_values.specs.Places.{Place, OfSession, OfComponent, OfFlow, OfRuleName}
use Rattle.pcrf_values.specs.Values.{Value, Untold, Told, Entry}
use Rattle.pcrf_values.specs.Facts.{Fact, Field}
use Rattle.pcrf_values.specs.Held.{is_ended, is_gone, entry_shown}
use Rattle.pcrf_model.specs.Sessions.{Session, session_cmp}
use Rattle.pcrf_model.specs.Holdings.{SessionFact, under, on_session, facts_on}
use Rattle.pcrf_model.specs.Views.{View, Shown, shown_cmp, entry_shown_on, shown_by_fact, view}
use Rattle.pcrf_model.specs.Live.{is_live}
use Rattle.pcrf_model.specs.Bindings.{bind, is_bound_to}
use Rattle.pcrf_model.specs.Tables.{Tables}
use Rattle.pcrf_model.specs.Rules.{flow_at, rule_of, rule_at, operator_rules, listed_cmp, rules}
use Rattle.pcrf_values.specs.ToldWords.{ToldRule}
use Rattle.pcrf_model.specs.Differences.{told_cmp, told_rules_of, rule_name_of, as_told, stays, last_of_names, apply}
use Rattle.pcrf_model.specs.Making.{told_facts}
use Rattle.pcrf_model.proofs.HoldingLaws.{session_ranked, facts_on-In, under-In}
use Rattle.pcrf_model.proofs.ViewLaws.{shown_ranked, its_session, sessions_alone, all-shows, In-all}
use Rattle.pcrf_model.proofs.ToldLaws.{told-shows, In-told, told_is_told}
use Rattle.pcrf_model.proofs.ToldFacts.{is_told, Tells, IsApart, ended_same, field_shows, shows_untold, shows_told, shows_old}
use Rattle.pcrf_model.proofs.DifferenceLaws.{told_ranked, there, stays_if, stays_in, installed_in, not_removed, not_installed}

-- ---- what is read without the told entries

-- what shows is no told entry
abbrev pub is_field : Shown → Bool
is_field x = not (is_told x.place)

-- the view without the told entries, and without what is removed
abbrev pub fields_of : View → View
fields_of v = record { shows = λ s p. cond (is_told p) None (v.shows s p); ended = v.ended; removals = λ s. []; aborted = λ s. false; all = filter is_field v.all; sessions = v.sessions }

-- what a filter leaves out may give nothing
filter_map-filter : {A B : Type 0} (g : A → Option B) (p : A → Bool) → ((x : A) → p x ≡ false → g x ≡ None) → (xs : List A) → filter_map g (filter p xs) ≡ filter_map g xs
filter_map-filter g p none [] = refl
filter_map-filter g p none (x ∷ xs) = elim (p x) as (λ b. p x ≡ b → filter_map g (cond b (x ∷ filter p xs) (filter p xs)) ≡ cons_option (g x) (filter_map g xs)) [
  | true ↦ λ _. ap (cons_option (g x)) (filter_map-filter g p none xs)
  | false ↦ λ e. filter_map-filter g p none xs ∙ ap (λ r. cons_option r (filter_map g xs)) (sym (none x e))
] refl

-- a told entry gives no rule
no_rule : (t : Tables) (v : View) (s : Session) (x : Shown) → is_field x ≡ false → rule_at t v s x ≡ None
no_rule t v s x e = elim (is_bound_to v s x.session) as (λ b. cond b (option_and_then (rule_of t v) (flow_at x.session x.place)) None ≡ None) [
  | true ↦ ap (option_and_then (rule_of t v)) (no_flow x.place e)
  | false ↦ refl
]
  where
    no_flow : (p : Place) → not (is_told p) ≡ false → flow_at x.session p ≡ None
    no_flow (OfRuleName n) h = refl
    no_flow (OfSession f) h = clash true refl h
    no_flow (OfComponent c f) h = clash true refl h
    no_flow (OfFlow c n f) h = clash true refl h

-- the rules are read without the told entries
pub rules-fields_of : (t : Tables) (v : View) (s : Session) → rules t (fields_of v) s ≡ rules t v s
unfolding rules bind
rules-fields_of t v s = ap (λ (l : List RuleValue). cond (is_live v s) (ascending listed_cmp (operator_rules t v s ++ l)) [])
    (filter_map-filter (rule_at t v s) is_field (no_rule t v s) v.all)

-- ---- more facts that tell of one session

-- the facts under a session, read there
pub facts_on-under : (s : Session) (facts : List Fact) → facts_on (under s facts) s ≡ facts
facts_on-under s [] = refl
facts_on-under s (f ∷ facts) = rw (eq_itself session_ranked s) (ap (λ (l : List Fact). f ∷ l) (facts_on-under s facts))

module _ (xs : List SessionFact) (s : Session) (ts : List Fact) (tells : (f : Fact) → In f ts → Tells f) where
  -- before
  abbrev v : View
  v = view xs

  -- after
  abbrev w : View
  w = view (xs ++ under s ts)

  -- what a session has more
  abbrev more : Session → List Fact
  more r = facts_on (under s ts) r

  -- it tells
  more_tells : (r : Session) (f : Fact) → In f (more r) → Tells f
  more_tells r f i = tells f (under-In s (r, f) ts (facts_on-In (under s ts) r f i)).1

  -- the facts of a session after
  pub facts_after : (r : Session) → facts_on (xs ++ under s ts) r ≡ facts_on xs r ++ more r
  facts_after r = filter_map-append (on_session r) xs (under s ts)

  -- a field shows what it showed
  pub field_same : (r : Session) (p : Place) → is_told p ≡ false → w.shows r p ≡ v.shows r p
  field_same r p h =
      (sessions_alone (xs ++ under s ts) r).shows p
      ∙ ap (λ (l : List Fact). entry_shown l p) (facts_after r)
      ∙ field_shows (facts_on xs r) (more r) (more_tells r) p h
      ∙ sym ((sessions_alone xs r).shows p)

  -- as a field or not
  as_field : (r : Session) (p : Place) (b : Bool) → is_told p ≡ b → cond b None (w.shows r p) ≡ cond b None (v.shows r p)
  as_field r p true h = refl
  as_field r p false h = field_same r p h

  -- the same sessions are ended
  pub same_ended : (r : Session) → w.ended r ≡ v.ended r
  same_ended r =
      (sessions_alone (xs ++ under s ts) r).ended
      ∙ ap is_ended (facts_after r)
      ∙ ended_same (facts_on xs r) (more r) (more_tells r)
      ∙ sym (sessions_alone xs r).ended

  -- the same fields show
  field_all : Same (filter is_field w.all) (filter is_field v.all)
  field_all x = (
    λ h. let r = filter-In is_field x w.all h in
        In-filter is_field x v.all (In-all xs x.session x.place (x.tag, x.value) (sym (field_same x.session x.place (not_true _ r.1)) ∙ all-shows (xs ++ under s ts) x r.0)) r.1,
    λ h. let r = filter-In is_field x v.all h in
        In-filter is_field x w.all (In-all (xs ++ under s ts) x.session x.place (x.tag, x.value) (field_same x.session x.place (not_true _ r.1) ∙ all-shows xs x r.0)) r.1,
  )

  -- the same sessions are there
  same_sessions : In s (map its_session xs) → Same (map its_session (xs ++ under s ts)) (map its_session xs)
  same_sessions known z = (
    λ h. let r = map-In its_session z (xs ++ under s ts) h in elim (In-cases r.0 xs (under s ts) r.1) [
      | inl i ↦ subst (λ (a : Session). In a (map its_session xs)) (sym r.2) (In-map its_session r.0 xs i)
      | inr i ↦ subst (λ (a : Session). In a (map its_session xs)) (sym (r.2 ∙ (under-In s r.0 ts i).0)) known
    ],
    λ h. let r = map-In its_session z xs h in subst (λ (a : Session). In a (map its_session (xs ++ under s ts))) (sym r.2) (In-map its_session r.0 (xs ++ under s ts) (In-left r.0 xs (under s ts) r.1)),
  )

  -- all that shows is in order
  in_order : (facts : List SessionFact) → Rises shown_cmp (view facts).all
  unfolding view
  in_order facts = ascending-ascending shown_cmp shown_ranked (filter_map (λ (x : SessionFact). shown_by_fact (entry_shown_on facts) x.0 x.1) facts)

  -- the sessions that have a fact
  known_sessions : In s (map its_session xs) → w.sessions ≡ v.sessions
  unfolding view
  known_sessions known = ascending-Same session_cmp session_ranked (map its_session (xs ++ under s ts)) (map its_session xs) (same_sessions known)

  -- so the fields are read the same
  pub fields_same : In s (map its_session xs) → fields_of w ≡ fields_of v
  fields_same known =
      let all : filter is_field w.all ≡ filter is_field v.all =
      same_ascending shown_cmp shown_ranked _ _
      (filter-ascending shown_cmp is_field w.all (in_order (xs ++ under s ts)))
      (filter-ascending shown_cmp is_field v.all (in_order xs))
      field_all in
      let sessions = known_sessions known in
      λ i. record {
        shows = λ r p. as_field r p (is_told p) refl i;
        ended = λ r. same_ended r i;
        removals = λ r. [];
        aborted = λ r. false;
        all = all i;
        sessions = sessions i;
      }

  -- and so are the rules
  pub rules_same : In s (map its_session xs) → (t : Tables) → rules t w s ≡ rules t v s
  rules_same known t = sym (rules-fields_of t w s) ∙ ap (λ (z : View). rules t z s) (fields_same known) ∙ rules-fields_of t v s

-- ---- telling a difference

-- entries that are the same
entries_of : (a b : Entry) → Some a ≡ Some b → a ≡ b
entries_of a b h = cc

-- nothing is no rule
untold_not_told : {P : Type 0} (r : RuleValue) → Untold ≡ Told r → P
untold_not_told r h = cc

-- a told rule is one
one_told : (q r : RuleValue) → Told q ≡ Told r → q ≡ r
one_told q r h = cc

-- a name is in a list or not
is_among : (n : List ℕ) (ns : List (List ℕ)) → In n ns ⊎ (In n ns → ⊥)
is_among n ns = elim (split (list_any (λ m. is_eq (text_cmp m n)) ns)) [
  | inl y ↦ let r = any-In (λ m. is_eq (text_cmp m n)) ns y in inl (subst (λ (z : List ℕ). In z ns) (eq_is text_ranked r.0 n r.2) r.1)
  | inr y ↦ inr (λ i. clash _ (In-any (λ m. is_eq (text_cmp m n)) n ns i (eq_itself text_ranked n)) y)
]

module _ (xs : List SessionFact) (s : Session) (g : Tag) (d : DeltaValue)
    (older : (m : List ℕ) (u : Tag) (x : Value) → In (Field (OfRuleName m) u x) (facts_on xs s) → tag_cmp u g ≡ Less)
    (open_ : (n : List ℕ) → is_gone (facts_on xs s) (OfRuleName n) ≡ false)
    (its : IsApart d) where
  -- the facts that tell it
  abbrev ts : List Fact
  ts = told_facts g d

  -- before, and after
  abbrev before : View
  before = view xs

  abbrev after : View
  after = view (xs ++ under s ts)

  -- what the session shows before
  shows_before : (p : Place) → before.shows s p ≡ entry_shown (facts_on xs s) p
  shows_before p = (sessions_alone xs s).shows p

  -- and after
  shows_after : (p : Place) → after.shows s p ≡ entry_shown (facts_on xs s ++ ts) p
  shows_after p =
      (sessions_alone (xs ++ under s ts) s).shows p
      ∙ ap (λ (l : List Fact). entry_shown l p) (filter_map-append (on_session s) xs (under s ts) ∙ ap (λ (l : List Fact). facts_on xs s ++ l) (facts_on-under s ts))

  -- what the rest of the names show
  old_after : (n : List ℕ) → (In n d.removed → ⊥) → (In n (map rule_name_of d.installed) → ⊥) → after.shows s (OfRuleName n) ≡ before.shows s (OfRuleName n)
  old_after n a b = shows_after (OfRuleName n) ∙ shows_old (facts_on xs s) g d n a b ∙ sym (shows_before (OfRuleName n))

  -- what is told after is what the difference leads to
  told_onward : (p : ToldRule) → In p (told_rules_of after s) → In p (apply (told_rules_of before s) d)
  told_onward p i =
      let h = told-shows (xs ++ under s ts) s p i in
      elim (is_among p.0 d.removed) [
        | inl j ↦ untold_not_told p.1 (ap (λ (z : Entry). z.1) (entries_of (g, Untold) (h.0, Told p.1) (sym (shows_after (OfRuleName p.0) ∙ shows_untold (facts_on xs s) g d older open_ its p.0 j) ∙ h.1)))
        | inr a ↦ elim (is_among p.0 (map rule_name_of d.installed)) [
          | inl j ↦
              let r = map-In rule_name_of p.0 d.installed j in
              let shows : after.shows s (OfRuleName r.0.name) ≡ Some (g, Told r.0) = shows_after (OfRuleName r.0.name) ∙ shows_told (facts_on xs s) g d older open_ its r.0 r.1 in
              let q = one_told r.0 p.1 (ap (λ (z : Entry). z.1) (entries_of (g, Told r.0) (h.0, Told p.1) (sym shows ∙ ap (λ (n : List ℕ). after.shows s (OfRuleName n)) (sym r.2) ∙ h.1))) in
              subst (λ (z : ToldRule). In z (apply (told_rules_of before s) d)) (λ k. (sym r.2 k, q k)) (installed_in (told_rules_of before s) d its.one_each r.0 r.1)
          | inr b ↦ stays_in (told_rules_of before s) d p (In-told xs s p.0 h.0 p.1 (sym (old_after p.0 a b) ∙ h.1)) (stays_if (told_rules_of before s) d p a b)
        ]
      ]

  -- and all of that
  told_backward : (p : ToldRule) → In p (apply (told_rules_of before s) d) → In p (told_rules_of after s)
  told_backward p i = elim (there (told_rules_of before s) d p i) [
    | inl r ↦
        let h = told-shows xs s p r.0 in
        In-told (xs ++ under s ts) s p.0 h.0 p.1 (old_after p.0 (not_removed (told_rules_of before s) d p r.1) (not_installed (told_rules_of before s) d p r.1) ∙ h.1)
    | inr r ↦
        let shows : after.shows s (OfRuleName r.0.name) ≡ Some (g, Told r.0) = shows_after (OfRuleName r.0.name) ∙ shows_told (facts_on xs s) g d older open_ its r.0 r.1 in
        subst (λ (z : ToldRule). In z (told_rules_of after s)) (sym r.2) (In-told (xs ++ under s ts) s r.0.name g r.0 shows)
  ]

  -- the told entries are those before, with the difference applied
  pub told_after : told_rules_of after s ≡ apply (told_rules_of before s) d
  told_after = same_ascending told_cmp told_ranked _ _
      (subst (Rises told_cmp) (told_is_told (xs ++ under s ts) s).in_order (ascending-ascending told_cmp told_ranked (told_rules_of after s)))
      (ascending-ascending told_cmp told_ranked (filter (stays d) (told_rules_of before s) ++ map as_told (last_of_names d.installed)))
      (λ p. (told_onward p, told_backward p))
