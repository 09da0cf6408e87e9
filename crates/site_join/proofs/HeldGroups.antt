-- What groups of the form say is what a state may hold, and what a state holds has groups of the form.
use Rattle.std.proofs.Common.{◌≡◌, ℕ, ◌≤◌, ◌==◌, true, false, ◌&&◌, nat_le, nat_lt, List, [], ◌∷◌, ◌++◌, length, map, inl, inr, refl, sym, ap, ◌∙◌, subst, append_assoc, append-nil, Equal}
use Rattle.std.specs.Ordering.{ordering_then}
use Rattle.std.specs.Option.{option_cmp}
use Rattle.std.specs.Cmp.{first_so, second_so, tied_itself}
use Rattle.std.specs.List.{list_any, list_all}
use Rattle.pcrf_values.specs.Ascending.{ascending, Rises}
use Rattle.pcrf_values.specs.Sets.{In, Same}
use Rattle.pcrf_values.proofs.Plain.{both, clash, is_false, not_true}
use Rattle.pcrf_values.proofs.SetLaws.{In-map, none-any, Same-itself, Same-back, Same-through, Same-append}
use Rattle.pcrf_values.proofs.AscendingLaws.{ascending-itself}
use Rattle.pcrf_values.specs.Places.{position_cmp}
use Rattle.pcrf_values.specs.Values.{entry_cmp}
use Rattle.pcrf_values.specs.Facts.{Fact, End, Removed, Field, Aborted, position, entry, fact_cmp, is_shaded_by}
use Rattle.pcrf_values.specs.Limits.{last_counter, site_limit}
use Rattle.pcrf_model.specs.Sessions.{Kind, Session, session_cmp}
use Rattle.pcrf_model.specs.Holdings.{SessionFact, session_fact_cmp, is_shaded_there_by, kept_facts, under, Holding, kept_of}
use Rattle.pcrf_model.specs.Operations.{Operation}
use Rattle.pcrf_model.specs.Forms.{is_stamp, is_unsigned, is_session, stand_together, number_at, fits, is_counted, is_numbered, is_recorded, is_record, is_held, is_holding}
use Rattle.pcrf_model.proofs.HoldingLaws.{session_ranked, session_fact_ranked, same_session, shaded_there, kept_facts-In, In-kept_facts, kept_facts-append, kept_facts-Same, sorted-Same, sorted-In}
use Rattle.pcrf_model.proofs.FormReading.{each_passes}
use Rattle.pcrf_model.proofs.FormLaws.{all_pass, passes_le, rises_by_test, test_by_form}
use Rattle.site_join.specs.Groups.{Group, facts_of_groups, held_in, is_group, are_groups}
use Rattle.site_join.specs.States.{Records, facts_of, held_by, session_of, facts_in, gx_with, af_with}
use Rattle.site_join.specs.declared.operation.SessionFacts.{SessionFacts}
use Rattle.site_join.proofs.StateLaws.{AreKept, takes, state_kept}
use Rattle.site_join.proofs.GroupLaws.{group_cmp, one_group, groups_rise}

-- ---- the form of groups, by parts

-- a group of the form
pub record IsGroup (clock : ℕ) (g : Group) : Type 0 where
  pub session : is_session g.0 ≡ true
  pub some : nat_le 1 (length g.1) ≡ true
  pub rises : Rises position_cmp (map position g.1)
  pub apart : list_any (λ f. list_any (is_shaded_by f) g.1) g.1 ≡ false
  pub each : (f : Fact) → In f g.1 → (fits g.0.kind f && is_counted g.0.kind clock f) ≡ true

-- is what passes the test
pub group_by_test : (clock : ℕ) (g : Group) → is_group clock g ≡ true → IsGroup clock g
group_by_test clock g w =
    let two = first_so (is_session g.0 && stand_together g.1) (list_all (λ f. fits g.0.kind f && is_counted g.0.kind clock f) g.1) w in
    let together = second_so (is_session g.0) (stand_together g.1) two in
    let one = first_so _ _ together in
    record {
      session = first_so (is_session g.0) (stand_together g.1) two;
      some = first_so _ _ one;
      rises = rises_by_test position_cmp (map position g.1) (second_so _ _ one);
      apart = not_true _ (second_so _ _ together);
      each = each_passes (λ f. fits g.0.kind f && is_counted g.0.kind clock f) g.1 (second_so (is_session g.0 && stand_together g.1) (list_all (λ f. fits g.0.kind f && is_counted g.0.kind clock f) g.1) w);
    }

-- groups of the form
pub record HaveForm (clock : ℕ) (gs : List Group) : Type 0 where
  pub last : clock ≤ last_counter
  pub rise : Rises session_cmp (map (λ (g : Group). g.0) gs)
  pub each : (g : Group) → In g gs → IsGroup clock g

-- are what passes the test
pub groups_by_test : (clock : ℕ) (gs : List Group) → are_groups clock gs ≡ true → HaveForm clock gs
groups_by_test clock gs w =
    let two = first_so _ _ w in
    record {
      last = passes_le clock last_counter (first_so _ _ two);
      rise = rises_by_test session_cmp (map (λ (g : Group). g.0) gs) (second_so _ _ two);
      each = λ g i. group_by_test clock g (each_passes (is_group clock) gs (second_so _ _ w) g i);
    }

-- ---- their facts rise, and none overshadows another

-- facts rise where their positions do
by_position : (fs : List Fact) → Rises position_cmp (map position fs) → Rises fact_cmp fs
by_position [] r = tt
by_position (f ∷ fs) r = (λ g i. ap (λ o. ordering_then o (option_cmp entry_cmp (entry f) (entry g))) (r.0 (position g) (In-map position g fs i)), by_position fs r.1)

-- and groups where their sessions do
by_session : (gs : List Group) → Rises session_cmp (map (λ (g : Group). g.0) gs) → Rises group_cmp gs
by_session [] r = tt
by_session (g ∷ gs) r = (λ k i. r.0 k.0 (In-map (λ (k : Group). k.0) k gs i), by_session gs r.1)

-- two of them on one session are one
same_group : (gs : List Group) → Rises group_cmp gs → (g k : Group) → In g gs → In k gs → g.0 ≡ k.0 → g ≡ k
same_group [] r g k i j e = absurd i
same_group (x ∷ gs) r g k (inl a) (inl b) e = a ∙ sym b
same_group (x ∷ gs) r g k (inl a) (inr j) e =
    let low = r.0 k j in
    let tied : session_cmp x.0 k.0 ≡ Equal = ap (λ (y : Group). session_cmp y.0 k.0) (sym a) ∙ ap (λ (s : Session). session_cmp s k.0) e ∙ tied_itself session_ranked.total k.0 in
    absurd (cc)
same_group (x ∷ gs) r g k (inr i) (inl b) e =
    let low = r.0 g i in
    let tied : session_cmp x.0 g.0 ≡ Equal = ap (λ (y : Group). session_cmp y.0 g.0) (sym b) ∙ ap (λ (s : Session). session_cmp s g.0) (sym e) ∙ tied_itself session_ranked.total g.0 in
    absurd (cc)
same_group (x ∷ gs) r g k (inr i) (inr j) e = same_group gs r.1 g k i j e

module _ (clock : ℕ) (gs : List Group) (form : HaveForm clock gs) where
  -- the facts rise
  pub facts_rise : Rises session_fact_cmp (facts_of_groups gs)
  facts_rise = groups_rise gs (by_session gs form.rise) (λ g i. by_position g.1 (form.each g i).rises)

  -- none overshadows another
  none_shaded : (x y : SessionFact) → In x (facts_of_groups gs) → In y (facts_of_groups gs) → is_shaded_there_by x y ≡ false
  none_shaded x y i j = is_false (is_shaded_there_by x y) (λ h.
      let a = one_group gs x i in
      let b = one_group gs y j in
      let one : a.0 ≡ b.0 = same_group gs (by_session gs form.rise) a.0 b.0 a.1 b.1 (sym a.2 ∙ same_session x y h ∙ b.2) in
      let there : In y.1 a.0.1 = subst (λ (g : Group). In y.1 g.1) (sym one) b.3 in
      let bare = none-any (is_shaded_by x.1) a.0.1 (none-any (λ f. list_any (is_shaded_by f) a.0.1) a.0.1 (form.each a.0 a.1).apart x.1 a.3) y.1 there in
      clash (is_shaded_by x.1 y.1) (shaded_there x y h) bare)

  -- so all are kept
  pub all_kept : Same (facts_of_groups gs) (kept_facts (facts_of_groups gs))
  all_kept x = (λ i. In-kept_facts x (facts_of_groups gs) i (λ y j. none_shaded x y i j), λ i. (kept_facts-In x (facts_of_groups gs) i).0)

  -- the facts are those of a holding
  pub groups_held : is_holding (held_in clock gs) ≡ true
  groups_held = test_by_form (held_in clock gs) (record {
    clock = form.last;
    rises = facts_rise;
    held = λ x i.
        let a = one_group gs x i in
        let g = form.each a.0 a.1 in
        let e = g.each x.1 a.3 in
        subst (λ (s : Session). is_held clock (s, x.1) ≡ true) (sym a.2)
        (both (is_session a.0.0 && fits a.0.0.kind x.1) (is_counted a.0.0.kind clock x.1) (both (is_session a.0.0) (fits a.0.0.kind x.1) g.session (first_so (fits a.0.0.kind x.1) (is_counted a.0.0.kind clock x.1) e)) (second_so (fits a.0.0.kind x.1) (is_counted a.0.0.kind clock x.1) e));
  })

  -- and records that have these facts hold them
  pub records_hold : (gxs afs : Records) → Same (facts_of gxs afs) (facts_of_groups gs) → held_by gxs afs clock ≡ held_in clock gs
  records_hold gxs afs s =
      let same = sorted-Same (facts_of gxs afs) (facts_of_groups gs) s ∙ ascending-itself session_fact_cmp session_fact_ranked (facts_of_groups gs) facts_rise in
      λ i. record { facts = same i; clock = clock }

-- ---- records made of groups

-- what is counted is numbered
counted_numbered : (k : Kind) (m : ℕ) (f : Fact) → is_counted k m f ≡ true → is_numbered k f ≡ true
counted_numbered k m End h = refl
counted_numbered k m Aborted h = refl
counted_numbered k m (Removed r) h = refl
counted_numbered k m (Field p t x) h =
    let three = first_so (is_stamp t.counter t.site && nat_le t.counter m && is_unsigned t.number) (t.number == number_at k p t.number) h in
    let two = first_so (is_stamp t.counter t.site && nat_le t.counter m) (is_unsigned t.number) three in
    let stamp = first_so (is_stamp t.counter t.site) (nat_le t.counter m) two in
    let within = first_so (nat_le 1 t.counter && nat_le t.counter last_counter) (nat_lt t.site site_limit) stamp in
    both (nat_le 1 t.counter && nat_lt t.site site_limit && is_unsigned t.number) (t.number == number_at k p t.number)
    (both (nat_le 1 t.counter && nat_lt t.site site_limit) (is_unsigned t.number)
    (both (nat_le 1 t.counter) (nat_lt t.site site_limit) (first_so (nat_le 1 t.counter) (nat_le t.counter last_counter) within) (second_so (nat_le 1 t.counter && nat_le t.counter last_counter) (nat_lt t.site site_limit) stamp))
    (second_so (is_stamp t.counter t.site && nat_le t.counter m) (is_unsigned t.number) three))
    (second_so (is_stamp t.counter t.site && nat_le t.counter m && is_unsigned t.number) (t.number == number_at k p t.number) h)

-- a group of the form is a record
pub group_record : (clock : ℕ) (g : Group) → is_group clock g ≡ true → is_record g.0.kind g.1 ≡ true
group_record clock g w =
    let form = group_by_test clock g w in
    both _ _ form.some (all_pass (is_recorded g.0.kind) g.1 (λ f i.
    let e = form.each f i in
    both (fits g.0.kind f) (is_numbered g.0.kind f) (first_so (fits g.0.kind f) (is_counted g.0.kind clock f) e) (counted_numbered g.0.kind clock f (second_so (fits g.0.kind f) (is_counted g.0.kind clock f) e))))

-- the facts of a group
abbrev pub facts_on_it : SessionFacts → List SessionFact
facts_on_it on = under (session_of on) (facts_in on)

-- with one more group the records have what is kept with its facts
taken_Same : (gxs afs : Records) (on : SessionFacts) → AreKept gxs → AreKept afs → Same (facts_of (gx_with gxs on) (af_with afs on)) (kept_facts (facts_of gxs afs ++ facts_on_it on))
taken_Same gxs afs on a b =
    let o : Operation = record { counter = 0; site = 0; number = 0; session = session_of on; facts = facts_in on } in
    let after : List SessionFact = facts_of (gx_with gxs on) (af_with afs on) in
    let before : List SessionFact = facts_of gxs afs in
    let whole : List SessionFact = ascending session_fact_cmp (ascending session_fact_cmp before ++ facts_on_it on) in
    let is : ascending session_fact_cmp after ≡ ascending session_fact_cmp (kept_facts whole) = ap (λ (h : Holding). h.facts) (takes gxs afs 0 on o refl refl a b) in
    Same-through after (ascending session_fact_cmp after) (kept_facts (before ++ facts_on_it on)) (Same-back (ascending session_fact_cmp after) after (sorted-In after))
    (subst (λ (l : List SessionFact). Same l (kept_facts (before ++ facts_on_it on))) (sym is)
    (Same-through (ascending session_fact_cmp (kept_facts whole)) (kept_facts whole) (kept_facts (before ++ facts_on_it on)) (sorted-In (kept_facts whole))
    (kept_facts-Same whole (before ++ facts_on_it on)
    (Same-through whole (ascending session_fact_cmp before ++ facts_on_it on) (before ++ facts_on_it on) (sorted-In (ascending session_fact_cmp before ++ facts_on_it on))
    (Same-append (ascending session_fact_cmp before) (facts_on_it on) before (facts_on_it on) (sorted-In before) (Same-itself (facts_on_it on)))))))

-- what is kept of the records and of all groups that are left is what is kept of the records with the first and of the others
pub first_taken : (gxs afs : Records) (on : SessionFacts) (rest all : List SessionFact) → AreKept gxs → AreKept afs
    → Same (kept_facts (facts_of gxs afs ++ (facts_on_it on ++ rest))) all → Same (kept_facts (facts_of (gx_with gxs on) (af_with afs on) ++ rest)) all
first_taken gxs afs on rest all a b s =
    let after : List SessionFact = facts_of (gx_with gxs on) (af_with afs on) in
    let before : List SessionFact = facts_of gxs afs in
    let step : Same (kept_facts (after ++ rest)) (kept_facts ((before ++ facts_on_it on) ++ rest)) =
    Same-through (kept_facts (after ++ rest)) (kept_facts (kept_facts (before ++ facts_on_it on) ++ rest)) (kept_facts ((before ++ facts_on_it on) ++ rest))
    (kept_facts-Same (after ++ rest) (kept_facts (before ++ facts_on_it on) ++ rest) (Same-append after rest (kept_facts (before ++ facts_on_it on)) rest (taken_Same gxs afs on a b) (Same-itself rest)))
    (kept_facts-append (before ++ facts_on_it on) rest) in
    Same-through (kept_facts (after ++ rest)) (kept_facts ((before ++ facts_on_it on) ++ rest)) all step
    (subst (λ (l : List SessionFact). Same (kept_facts l) all) (sym (append_assoc before (facts_on_it on) rest)) s)

-- in the end the records have the facts of all groups
pub all_taken : (clock : ℕ) (gs : List Group) → HaveForm clock gs → (gxs afs : Records) → AreKept gxs → AreKept afs
    → Same (kept_facts (facts_of gxs afs ++ [])) (kept_facts (facts_of_groups gs)) → held_by gxs afs clock ≡ held_in clock gs
all_taken clock gs form gxs afs a b s =
    let mine : List SessionFact = facts_of gxs afs in
    let ours : Same (kept_facts mine) (kept_facts (facts_of_groups gs)) = subst (λ (l : List SessionFact). Same (kept_facts l) (kept_facts (facts_of_groups gs))) (append-nil mine) s in
    records_hold clock gs form gxs afs
    (Same-through mine (kept_facts mine) (facts_of_groups gs) (state_kept gxs afs a b)
    (Same-through (kept_facts mine) (kept_facts (facts_of_groups gs)) (facts_of_groups gs) ours (Same-back (facts_of_groups gs) (kept_facts (facts_of_groups gs)) (all_kept clock gs form))))
