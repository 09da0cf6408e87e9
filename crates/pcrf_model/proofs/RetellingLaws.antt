-- After a retelling all rules are left to be told, and nothing else has changed; its operation is of the form.
use Rattle.std.proofs.lemmas.Bool.Decides.{nat_tests}
use Rattle.std.proofs.Common.{◌≡◌, ℕ, suc, ◌+◌, ◌<◌, Bool, true, false, cond, not, ◌&&◌, ◌==◌, List, [], ◌∷◌, ◌++◌, map, length, ◌⊎◌, Option, Some, None, inl, inr, refl, sym, ap, ◌∙◌, subst, filter, arith}
use Rattle.std.specs.Cmp.{first_so, second_so}
use Rattle.std.specs.Ordering.{is_lt}
use Rattle.std.specs.List.{filter_map}
use Rattle.pcrf_values.specs.Sets.{In}
use Rattle.pcrf_values.specs.declared.tag.Tag.{Tag}
use Rattle.pcrf_values.proofs.Plain.{clash, both, some_same, not_true, split}
use Rattle.pcrf_values.proofs.Greatest.{greatest_is, greatest_some}
use Rattle.pcrf_values.proofs.SetLaws.{In-left, In-any, any-In, In-map, map-In, In-filter_map}
use Rattle.pcrf_values.specs.Limits.{rule_name_limit, site_limit}
use Rattle.pcrf_values.specs.RuleValues.{RuleValue, DeltaValue}
use Rattle.pcrf_values.specs.Places.{Place, OfRuleName}
use Rattle.pcrf_values.specs.Values.{Untold, Told, Entry, entry_cmp}
use Rattle.pcrf_values.specs.Facts.{Fact, Field}
use Rattle.pcrf_values.specs.Held.{ends, is_ended, blocks, is_gone, entry_at, greatest_entry, entry_shown}
use Rattle.pcrf_values.specs.ToldWords.{ToldRule}
use Rattle.pcrf_values.proofs.FactLaws.{entry_ranked}
use Rattle.pcrf_values.proofs.JoinedLaws.{sorted-In}
use Rattle.pcrf_values.proofs.ShownLaws.{field_entry, fact_there}
use Rattle.pcrf_model.specs.Sessions.{Session, gx}
use Rattle.pcrf_model.specs.Holdings.{under, facts_on, Holding}
use Rattle.pcrf_model.specs.Operations.{Operation, with_operation}
use Rattle.pcrf_model.specs.Views.{View, view}
use Rattle.pcrf_model.specs.Live.{is_live}
use Rattle.pcrf_model.specs.Tables.{Tables}
use Rattle.pcrf_model.specs.Rules.{rules}
use Rattle.pcrf_model.specs.Differences.{told_rules_of, told_name_of, holds, difference, is_empty, apply}
use Rattle.pcrf_model.specs.Making.{told_facts, next_tag, next_operation}
use Rattle.pcrf_model.specs.Refusals.{is_clock_full}
use Rattle.pcrf_model.specs.Replies.{Outcome}
use Rattle.pcrf_model.specs.Retelling.{all_removed, told_away, was_told, retell_outcome, nothing_retold, retell, lacks_counter_to_retell}
use Rattle.pcrf_model.specs.Serving.{with_added}
use Rattle.pcrf_model.specs.Forms.{is_text, is_operation, is_holding}
use Rattle.pcrf_model.specs.Laws.{retold, all_installed, ReadsAllButTold, ShowsOrExceeds}
use Rattle.pcrf_model.proofs.HoldingLaws.{facts_on-In, In-facts_on}
use Rattle.pcrf_model.proofs.ViewLaws.{its_session, sessions_alone, view-Same}
use Rattle.pcrf_model.proofs.BindLaws.{live-known}
use Rattle.pcrf_model.proofs.FormReading.{fact_fits}
use Rattle.pcrf_model.proofs.MadeForms.{stamp_left}
use Rattle.pcrf_model.proofs.GatewayForms.{CanTell}
use Rattle.pcrf_model.proofs.ServedForms.{can_add, telling_in_form, told_length, not_none}
use Rattle.pcrf_model.proofs.ToldLaws.{told-shows}
use Rattle.pcrf_model.proofs.ToldFacts.{IsApart, told-tells}
use Rattle.pcrf_model.proofs.ToldTagLaws.{told_holding}
use Rattle.pcrf_model.proofs.DifferenceLaws.{there, not_removed}
use Rattle.pcrf_model.proofs.TellingLaws.{told_after}
use Rattle.pcrf_model.proofs.ToldAlike.{no_member, all_but_told, but_told_itself}
use Rattle.pcrf_model.proofs.ProvisionLaws.{above_all, end_alone, told_not_gone, one_list, sessions_are}
use Rattle.pcrf_model.proofs.AbortingLaws.{In-operation, live_in_form}

-- ---- what is told away

-- nothing is installed, so it is apart
away_apart : (v : View) (s : Session) → IsApart (told_away v s)
away_apart v s = record { one_each = λ a b i. absurd i; not_both = λ n i j. absurd j }

-- nothing is left of what was told
none_left : (v : View) (s : Session) → apply (told_rules_of v s) (told_away v s) ≡ []
none_left v s = no_member (apply (told_rules_of v s) (told_away v s)) (λ p i. elim (there (told_rules_of v s) (told_away v s) p i) [
  | inl r ↦ not_removed (told_rules_of v s) (told_away v s) p r.1 (In-map told_name_of p (told_rules_of v s) r.0)
  | inr r ↦ r.1
])

-- then the difference is all rules
all_rules : (rs : List RuleValue) → difference [] rs ≡ all_installed rs
all_rules rs = let installed = every rs in λ i. record { removed = []; installed = installed i }
  where
    every : (rs : List RuleValue) → filter (λ r. not (holds [] r)) rs ≡ rs
    every [] = refl
    every (r ∷ rs) = ap (λ (l : List RuleValue). r ∷ l) (every rs)

-- no name is told away just where none was told
some_away : (p : ToldRule) (told : List ToldRule) → is_empty (all_removed (p ∷ told)) ≡ false
some_away p told = above (length (map told_name_of told))
  where
    above : (n : ℕ) → (suc n + 0 == 0) ≡ false
    above n = grind (arith, nat_tests)

none_away : (told : List ToldRule) → is_empty (all_removed told) ≡ true → told ≡ []
none_away [] h = refl
none_away (p ∷ told) h = clash (is_empty (all_removed (p ∷ told))) h (some_away p told)

pub not_none_away : (told : List ToldRule) → (told ≡ [] → ⊥) → not (is_empty (all_removed told)) ≡ true
not_none_away [] some = absurd (some refl)
not_none_away (p ∷ told) some = ap not (some_away p told)

-- ---- by whether the gateway was told a rule

-- what is done then
pub retell_by : (i : ℕ) (h : Holding) (id : List ℕ) (b : Bool) → was_told (view h.facts) (gx id) ≡ b
    → retell i h id ≡ cond b (retell_outcome i h (view h.facts) (gx id)) nothing_retold
unfolding retell
retell_by i h id b e = ap (λ c. cond c (retell_outcome i h (view h.facts) (gx id)) nothing_retold) e

-- and whether a counter is wanted
pub lacks_to_retell_by : (h : Holding) (id : List ℕ) (b : Bool) → was_told (view h.facts) (gx id) ≡ b
    → lacks_counter_to_retell h id ≡ (b && is_clock_full h)
unfolding lacks_counter_to_retell
lacks_to_retell_by h id b e = ap (λ c. c && is_clock_full h) e

-- nothing, where it was told none
added_none : (i : ℕ) (h : Holding) (id : List ℕ) → was_told (view h.facts) (gx id) ≡ false
    → with_added h (retell i h id).added ≡ h
added_none i h id e = ap (λ (o : Outcome). with_added h o.added) (retell_by i h id false e)

module _ (i : ℕ) (h : Holding) (id : List ℕ) (told : was_told (view h.facts) (gx id) ≡ true) where
  -- the session
  abbrev s : Session
  s = gx id

  -- before
  abbrev v : View
  v = view h.facts

  -- what it is told under
  abbrev g : Tag
  g = next_tag i h 0

  -- the facts that tell it
  abbrev new : List Fact
  new = told_facts g (told_away v s)

  -- it is live
  lives : is_live v s ≡ true
  lives = first_so _ _ told

  -- and has facts
  known : In s (map its_session h.facts)
  known = sessions_are h.facts s (live-known h.facts s lives)

  -- what is added
  added_is : (retell i h id).added ≡ Some (next_operation i h 0 s new)
  added_is = ap (λ (o : Outcome). o.added) (retell_by i h id true told)

  -- what is read then
  retold_is : retold i h id ≡ view (h.facts ++ under s new)
  retold_is =
      ap (λ (o : Option Operation). view (with_added h o).facts) added_is
      ∙ view-Same _ _ (one_list h.facts s new)

  -- no rule is told
  none_told : is_holding h ≡ true → told_rules_of (retold i h id) s ≡ []
  none_told form =
      let open_ = sym (sessions_alone h.facts s).ended ∙ not_true _ (first_so _ _ lives) in
      ap (λ (z : View). told_rules_of z s) retold_is
      ∙ told_after h.facts s g (told_away v s) (above_all h i (told_holding h form) s)
      (λ n. told_not_gone (facts_on h.facts s) n open_) (away_apart v s)
      ∙ none_left v s

  -- nothing else changes
  told_alone : ReadsAllButTold (retold i h id) v s
  told_alone =
      subst (λ (z : View). ReadsAllButTold z v s) (sym retold_is)
      (all_but_told h.facts s new (told-tells g (told_away v s)) known)

-- ---- the laws

-- all rules are left
pub leaves_all_rules : (t : Tables) (i : ℕ) (h : Holding) (id : List ℕ) → is_holding h ≡ true → is_live (view h.facts) (gx id) ≡ true
    → difference (told_rules_of (retold i h id) (gx id)) (rules t (retold i h id) (gx id)) ≡ all_installed (rules t (view h.facts) (gx id))
leaves_all_rules t i h id form lives = elim (split (was_told (view h.facts) (gx id))) [
  | inl e ↦
      let none = none_told i h id e form in
      let stay = (told_alone i h id e).lists t (gx id) in
      (λ k. difference (none k) (stay k)) ∙ all_rules (rules t (view h.facts) (gx id))
  | inr e ↦
      let away : is_empty (told_away (view h.facts) (gx id)) ≡ true = not_false _ (sym (ap (λ b. b && not (is_empty (told_away (view h.facts) (gx id)))) lives) ∙ e) in
      let none = none_away (told_rules_of (view h.facts) (gx id)) away in
      let same = added_none i h id e in
      ap (λ (k : Holding). difference (told_rules_of (view k.facts) (gx id)) (rules t (view k.facts) (gx id))) same
      ∙ ap (λ (u : List ToldRule). difference u (rules t (view h.facts) (gx id))) none
      ∙ all_rules (rules t (view h.facts) (gx id))
]
  where
    not_false : (b : Bool) → not b ≡ false → b ≡ true
    not_false true e = refl
    not_false false e = sym e

-- nothing else changes
pub changes_nothing_else : (i : ℕ) (h : Holding) (id : List ℕ) → ReadsAllButTold (retold i h id) (view h.facts) (gx id)
changes_nothing_else i h id = elim (split (was_told (view h.facts) (gx id))) [
  | inl e ↦ told_alone i h id e
  | inr e ↦
      subst (λ (k : Holding). ReadsAllButTold (view k.facts) (view h.facts) (gx id))
      (sym (added_none i h id e)) (but_told_itself (view h.facts) (gx id))
]

-- a second one makes no operation
pub retells_once : (i j : ℕ) (h : Holding) (id : List ℕ) → is_holding h ≡ true → retell j (with_added h (retell i h id).added) id ≡ nothing_retold
retells_once i j h id form = elim (split (was_told (view h.facts) (gx id))) [
  | inl e ↦
      let none = none_told i h id e form in
      retell_by j (with_added h (retell i h id).added) id false
      (ap (λ (u : List ToldRule). is_live (retold i h id) (gx id) && not (is_empty (all_removed u))) none ∙ never (is_live (retold i h id) (gx id)))
  | inr e ↦ ap (λ (k : Holding). retell j k id) (added_none i h id e) ∙ retell_by j h id false e
]
  where
    never : (b : Bool) → (b && false) ≡ false
    never true = refl
    never false = refl

-- a fact of a name shows there, or is below what shows, unless the session has ended
shows_or_exceeds : (facts : List Fact) (n : List ℕ) (x : Entry) → In (Field (OfRuleName n) x.0 x.1) facts
    → (is_ended facts ≡ true) ⊎ ((e : Entry) × (entry_shown facts (OfRuleName n) ≡ Some e) × (is_lt (entry_cmp e x) ≡ false))
shows_or_exceeds facts n x i = elim (split (is_gone facts (OfRuleName n))) [
  | inl gone ↦
      let r = any-In (blocks (OfRuleName n)) facts gone in
      inl (In-any ends r.0 facts r.1 (end_alone n r.0 r.2))
  | inr open_ ↦
      let p : Place = OfRuleName n in
      let es : List Entry = filter_map (entry_at p) facts in
      let here : In x es = In-filter_map (entry_at p) (Field p x.0 x.1) x facts i (field_entry p x) in
      let c = greatest_some entry_cmp entry_ranked es x here in
      let top = greatest_is entry_cmp entry_ranked es c.0 c.1 in
      inr (c.0, ap (λ b. cond b None (greatest_entry facts p)) open_ ∙ c.1, top.1 x here)
]

-- every site counts the names as not told
pub is_agreed : (i : ℕ) (h k : Holding) (id n : List ℕ) → is_live (view h.facts) (gx id) ≡ true → In n (map told_name_of (told_rules_of (view h.facts) (gx id)))
    → ShowsOrExceeds (view (with_added k (retell i h id).added).facts) (gx id) (OfRuleName n) (next_tag i h 0, Untold)
is_agreed i h k id n lives named =
    let s : Session = gx id in
    let v : View = view h.facts in
    let some : told_rules_of v s ≡ [] → ⊥ = λ e. subst (λ (us : List ToldRule). In n (map told_name_of us)) e named in
    let told : was_told v s ≡ true = both _ _ lives (not_none_away (told_rules_of v s) some) in
    let new : List Fact = told_facts (next_tag i h 0) (told_away v s) in
    let o : Operation = next_operation i h 0 s new in
    let w : Holding = with_operation k o in
    let own : Fact = Field (OfRuleName n) (next_tag i h 0) Untold in
    let fact : In own new = In-left own _ [] (In-map (λ m. Field (OfRuleName m) (next_tag i h 0) Untold) n (map told_name_of (told_rules_of v s)) named) in
    let there : In (s, own) w.facts = In-operation k o own ((sorted-In new own).1 fact) in
    let alone = sessions_alone w.facts s in
    let shows : ShowsOrExceeds (view w.facts) s (OfRuleName n) (next_tag i h 0, Untold) = elim (shows_or_exceeds (facts_on w.facts s) n (next_tag i h 0, Untold) (In-facts_on w.facts s own there)) [
      | inl e ↦ inl (alone.ended ∙ e)
      | inr e ↦ inr (e.0, alone.shows (OfRuleName n) ∙ e.1, e.2)
    ] in
    subst (λ (x : Option Operation). ShowsOrExceeds (view (with_added k x).facts) s (OfRuleName n) (next_tag i h 0, Untold)) (sym (added_is i h id told)) shows

-- ---- form

-- what was told of a session of a holding of the form has names of the form
told_text : (h : Holding) → is_holding h ≡ true → (id : List ℕ) (u : ToldRule) → In u (told_rules_of (view h.facts) (gx id)) → is_text rule_name_limit u.0 ≡ true
told_text h form id u i =
    let s : Session = gx id in
    let r = told-shows h.facts s u i in
    let own : Fact = Field (OfRuleName u.0) r.0 (Told u.1) in
    let shown = sym ((sessions_alone h.facts s).shows (OfRuleName u.0)) ∙ r.1 in
    let there : In (s, own) h.facts = facts_on-In h.facts s own (fact_there (facts_on h.facts s) (OfRuleName u.0) (r.0, Told u.1) shown) in
    first_so _ _ (fact_fits h form (s, own) there)

-- so it may be told away
away_may_be_told : (h : Holding) → is_holding h ≡ true → (id : List ℕ) → CanTell (told_away (view h.facts) (gx id))
away_may_be_told h form id = record {
  names = λ n i.
      let u = map-In told_name_of n (told_rules_of (view h.facts) (gx id)) i in
      subst (λ (z : List ℕ). is_text rule_name_limit z ≡ true) (sym u.2) (told_text h form id u.0 u.1);
  names_too = λ r i. absurd i;
  rules = λ r i. absurd i;
  apart = away_apart (view h.facts) (gx id);
}

-- and what a retelling adds is of the form
pub retelling_in_form : (i : ℕ) (h : Holding) (id : List ℕ) (o : Operation) → i < site_limit → is_holding h ≡ true
    → lacks_counter_to_retell h id ≡ false → (retell i h id).added ≡ Some o → is_operation o ≡ true
unfolding retell lacks_counter_to_retell
retelling_in_form i h id o low form = by (was_told (view h.facts) (gx id)) refl
  where
    by : (b : Bool) → was_told (view h.facts) (gx id) ≡ b → (b && is_clock_full h) ≡ false
        → (cond b (retell_outcome i h (view h.facts) (gx id)) nothing_retold).added ≡ Some o → is_operation o ≡ true
    by false e full added = absurd (cc)
    by true e full added =
        let s : Session = gx id in
        let d : DeltaValue = told_away (view h.facts) s in
        let count = told_length (next_tag i h 0) d in
        let some = not_none (length d.removed + length d.installed) (second_so (is_live (view h.facts) s) _ e) in
        subst (λ (z : Operation). is_operation z ≡ true) (some_same _ o added)
        (telling_in_form (h.clock + 1) i s (stamp_left i h (can_add i h low form full)) refl
        (live_in_form h form s (first_so _ _ e)) d (away_may_be_told h form id)
        (omega (arith, count, some)))
