-- The session that is aborted is the first that is abandoned, once; what is added is of the form.
use Rattle.std.proofs.Common.{◌≡◌, ℕ, ◌+◌, ◌<◌, Bool, true, false, cond, not, ◌&&◌, ◌||◌, is_some, List, [], ◌∷◌, ◌++◌, map, ◌⊎◌, Option, Some, None, inl, inr, refl, sym, ap, ◌∙◌, subst, option_map, unwrap_or}
use Rattle.std.specs.Cmp.{first_so, second_so}
use Rattle.std.specs.List.{list_any, filter_map, cons_option}
use Rattle.std.specs.Ordering.{is_eq}
use Rattle.std.proofs.lemmas.List.Elements.{filter_map-append}
use Rattle.pcrf_values.specs.Ascending.{ascending}
use Rattle.pcrf_values.specs.Sets.{In, Same, greatest}
use Rattle.pcrf_values.proofs.Plain.{clash, is_false, not_true, some_same, split}
use Rattle.pcrf_values.proofs.SetLaws.{In-left, In-right, In-any, In-cases, In-map, map-In}
use Rattle.pcrf_values.proofs.AscendingLaws.{ascending-In, ascending-Same}
use Rattle.pcrf_values.specs.Places.{Place}
use Rattle.pcrf_values.specs.Values.{Entry, entry_cmp}
use Rattle.pcrf_values.specs.Limits.{site_limit}
use Rattle.pcrf_values.specs.Facts.{Fact, Field, Aborted}
use Rattle.pcrf_values.specs.Held.{ends, is_ended, blocks, entry_at, entry_shown, aborts, is_aborted}
use Rattle.pcrf_values.proofs.AbortLaws.{aborted_until_the_end}
use Rattle.pcrf_values.proofs.ShownLaws.{fact_there}
use Rattle.pcrf_model.specs.Sessions.{Kind, Gx, Af, Session, session_cmp, is_gx}
use Rattle.pcrf_model.specs.Holdings.{SessionFact, on_session, facts_on, under, Holding, union}
use Rattle.pcrf_model.specs.Operations.{Operation, with_operation}
use Rattle.pcrf_model.specs.Views.{View, Shown, shown_cmp, entry_shown_on, shown_by_fact, view}
use Rattle.pcrf_model.specs.Live.{is_live}
use Rattle.pcrf_model.specs.Making.{next_operation}
use Rattle.pcrf_model.specs.Refusals.{is_clock_full}
use Rattle.pcrf_model.specs.Replies.{Outcome}
use Rattle.pcrf_model.specs.Serving.{with_added}
use Rattle.pcrf_model.specs.Aborting.{is_abandoned, abandoned_session, abort_outcome, nothing_aborted, abort, lacks_counter_to_abort}
use Rattle.pcrf_model.specs.Forms.{is_request_number, is_session, fits, is_tagged, is_operation, is_holding}
use Rattle.pcrf_model.specs.Laws.{IsFirstAbandoned, ReadsAlike}
use Rattle.pcrf_model.proofs.HoldingLaws.{session_ranked, sorted-In, In-facts_on, facts_on-In, In-under}
use Rattle.pcrf_model.proofs.ViewLaws.{its_session, sessions_alone, view-Same}
use Rattle.pcrf_model.proofs.BindLaws.{live_reached, live-known}
use Rattle.pcrf_model.proofs.ReadingLaws.{reads_alike}
use Rattle.pcrf_model.proofs.DueLaws.{first_passing, none_passing}
use Rattle.pcrf_model.proofs.FormReading.{held_fact}
use Rattle.pcrf_model.proofs.MadeForms.{stamp_left, alone_in_form}
use Rattle.pcrf_model.proofs.ServedForms.{can_add}

-- ---- what is said of a session that is abandoned

module _ (i : ℕ) (v : View) (name : Option (List ℕ)) (s : Session) (h : is_abandoned i v name s ≡ true) where
  -- it is an AF session, and live
  kind_and_life : (not (is_gx s.kind) && is_live v s) ≡ true
  kind_and_life = first_so _ _ (first_so _ _ (first_so _ _ (first_so _ _ (first_so _ _ h))))

  -- of an application function
  pub abandoned_kind : is_gx s.kind ≡ false
  abandoned_kind = not_true (is_gx s.kind) (first_so (not (is_gx s.kind)) _ kind_and_life)

  -- live
  pub abandoned_lives : is_live v s ≡ true
  abandoned_lives = second_so (not (is_gx s.kind)) _ kind_and_life

  -- and not aborted yet
  pub not_aborted : v.aborted s ≡ false
  not_aborted = not_true _ (second_so _ _ (first_so _ _ (first_so _ _ h)))

-- ---- the first

module _ (i : ℕ) (facts : List SessionFact) (name : Option (List ℕ)) where
  -- whoever is abandoned
  abbrev passes : Session → Bool
  passes = is_abandoned i (view facts) name

  -- is live
  passes_live : (s : Session) → passes s ≡ true → is_live (view facts) s ≡ true
  passes_live = abandoned_lives i (view facts) name

  -- the one that is aborted is the first that is abandoned
  pub first_abandoned : (s : Session) → abandoned_session i (view facts) name ≡ Some s
      → IsFirstAbandoned i (view facts) name s
  unfolding abandoned_session
  first_abandoned s h =
      let f = first_passing facts passes passes_live s h in
      record { is_one = f.0; none_before = f.1 }

  -- and none is where none is found
  pub none_abandoned : abandoned_session i (view facts) name ≡ None → (s : Session) → passes s ≡ false
  unfolding abandoned_session
  none_abandoned h = none_passing facts passes passes_live h

  -- ---- once

  -- a session with the fact isn't abandoned
  noted : (s : Session) → In (s, Aborted) facts → passes s ≡ false
  noted s there = is_false (passes s) (λ h.
      let own : List Fact = facts_on facts s in
      let alone = sessions_alone facts s in
      let open_ : (view facts).ended s ≡ false =
      not_true _ (first_so (not ((view facts).ended s)) _ (passes_live s h)) in
      let so : list_any aborts own ≡ true =
      In-any aborts Aborted own (In-facts_on facts s Aborted there) refl in
      let until : is_aborted own ≡ (not (is_ended own) && list_any aborts own) =
      aborted_until_the_end own in
      let aborted : (view facts).aborted s ≡ true =
      alone.aborts ∙ until ∙ (λ j. not ((sym alone.ended ∙ open_) j) && so j) in
      clash ((view facts).aborted s) aborted (not_aborted i (view facts) name s h))

-- a fact that a holding has, a union with it has
In-union : (h k : Holding) (x : SessionFact) → In x h.facts → In x (union h k).facts
In-union h k x i = (sorted-In (h.facts ++ k.facts) x).1 (In-left x h.facts k.facts i)

-- the fact is in a holding with the operation
pub In-operation : (h : Holding) (o : Operation) (f : Fact) → In f o.facts
    → In (o.session, f) (with_operation h o).facts
In-operation h o f i =
    (sorted-In (h.facts ++ under o.session o.facts) (o.session, f)).1
    (In-right (o.session, f) h.facts (under o.session o.facts) (In-under o.session f o.facts i))

-- what is added where a session is abandoned
added_abandoned : (i : ℕ) (h : Holding) (v : View) (x : Option Session) (s : Session) → x ≡ Some s
    → (unwrap_or (option_map (abort_outcome i h v) x) nothing_aborted).added
    ≡ Some (next_operation i h 0 s (Aborted ∷ []))
added_abandoned i h v x s is =
    ap (λ (y : Option Session). (unwrap_or (option_map (abort_outcome i h v) y) nothing_aborted).added)
    is

-- so none is aborted twice
pub aborts_once : (i j : ℕ) (h k : Holding) (name other : Option (List ℕ)) (s : Session)
    → abandoned_session i (view h.facts) name ≡ Some s
    → is_abandoned j (view (union (with_added h (abort i h name).added) k).facts) other s ≡ false
unfolding abort
aborts_once i j h k name other s is =
    let o : Operation = next_operation i h 0 s (Aborted ∷ []) in
    let later : Holding = with_added h (abort i h name).added in
    let added = added_abandoned i h (view h.facts) (abandoned_session i (view h.facts) name) s is in
    let new : In (s, Aborted) (with_operation h o).facts = In-operation h o Aborted (inl refl) in
    let there : In (s, Aborted) later.facts =
    subst (λ (x : Option Operation). In (s, Aborted) (with_added h x).facts) (sym added) new in
    noted j (union later k).facts other s (In-union later k (s, Aborted) there)

-- ---- nothing else

-- where the last member passes no test, it makes none pass
any_more : {A : Type 0} (test : A → Bool) (x : A) → test x ≡ false → (xs : List A)
    → list_any test (xs ++ x ∷ []) ≡ list_any test xs
any_more test x q [] = ap (λ b. b || false) q
any_more test x q (y ∷ ys) = ap (λ b. test y || b) (any_more test x q ys)

-- and where nothing is picked of it, nothing more is picked
picked_more : {A B : Type 0} (pick : A → Option B) (x : A) → pick x ≡ None → (xs : List A)
    → filter_map pick (xs ++ x ∷ []) ≡ filter_map pick xs
picked_more pick x q [] = ap (λ o. cons_option o []) q
picked_more pick x q (y ∷ ys) = ap (cons_option (pick y)) (picked_more pick x q ys)

-- the fact shows nothing
shown_more : (fs : List Fact) (p : Place) → entry_shown (fs ++ Aborted ∷ []) p ≡ entry_shown fs p
shown_more fs p = λ i.
    cond (any_more (blocks p) Aborted refl fs i) None
    (greatest entry_cmp (picked_more (entry_at p) Aborted refl fs i))

module _ (facts : List SessionFact) (s : Session) where
  -- with the fact of that session
  abbrev more : List SessionFact
  more = facts ++ (s, Aborted) ∷ []

  -- a session has the facts that it had, or that one too
  facts_more : (r : Session)
      → (facts_on more r ≡ facts_on facts r) ⊎ (facts_on more r ≡ facts_on facts r ++ Aborted ∷ [])
  facts_more r = elim (split (is_eq (session_cmp r s))) [
    | inl t ↦ inr (filter_map-append (on_session r) facts ((s, Aborted) ∷ [])
        ∙ ap (λ b. facts_on facts r ++ cons_option (cond b (Some Aborted) None) []) t)
    | inr f ↦ inl (picked_more (on_session r) (s, Aborted) (ap (λ b. cond b (Some Aborted) None) f) facts)
  ]

  -- so what is the same with that one is the same
  same_of : {A : Type 0} (read : List Fact → A) (r : Session)
      → ((fs : List Fact) → read (fs ++ Aborted ∷ []) ≡ read fs)
      → read (facts_on more r) ≡ read (facts_on facts r)
  same_of read r same = elim (facts_more r) [
    | inl e ↦ ap read e
    | inr e ↦ ap read e ∙ same (facts_on facts r)
  ]

  -- each place shows the same
  same_shows : entry_shown_on more ≡ entry_shown_on facts
  same_shows = λ i r p. same_of (λ fs. entry_shown fs p) r (λ fs. shown_more fs p) i

  -- what shows at the places of facts
  abbrev listed : (Session → Place → Option Entry) → List SessionFact → List Shown
  listed shows = filter_map (λ (x : SessionFact). shown_by_fact shows x.0 x.1)

  module _ (known : In s (map its_session facts)) where
    -- no session has a fact that had none
    same_sessions : Same (map its_session more) (map its_session facts)
    same_sessions r = (
      λ j.
          let m = map-In its_session r more j in
          elim (In-cases m.0 facts ((s, Aborted) ∷ []) m.1) [
            | inl k ↦ subst (λ (z : Session). In z (map its_session facts)) (sym m.2) (In-map its_session m.0 facts k)
            | inr k ↦ elim k [
              | inl e ↦ subst (λ (z : Session). In z (map its_session facts)) (sym (m.2 ∙ ap its_session e)) known
              | inr n ↦ absurd n
            ]
          ],
      λ j.
          let m = map-In its_session r facts j in
          subst (λ (z : Session). In z (map its_session more)) (sym m.2)
          (In-map its_session m.0 more (In-left m.0 facts ((s, Aborted) ∷ []) m.1)),
    )

    -- so all reads alike
    more_alike : ReadsAlike (view more) (view facts)
    unfolding view
    more_alike = reads_alike (view more) (view facts)
        same_shows
        (λ i r. same_of is_ended r (any_more ends Aborted refl) i)
        (ap (λ (f : Session → Place → Option Entry). ascending shown_cmp (listed f more)) same_shows
        ∙ ap (ascending shown_cmp) (picked_more (λ (x : SessionFact). shown_by_fact (entry_shown_on facts) x.0 x.1) (s, Aborted) refl facts))
        (ascending-Same session_cmp session_ranked (map its_session more) (map its_session facts) same_sessions)

-- a session that is read has a fact
session_known : (facts : List SessionFact) (s : Session) → In s (view facts).sessions
    → In s (map its_session facts)
unfolding view
session_known facts s i =
    (ascending-In session_cmp session_ranked (map its_session facts) s).0 i

-- so an abort changes nothing else
pub abort_alone : (i : ℕ) (h : Holding) (name : Option (List ℕ))
    → ReadsAlike (view (with_added h (abort i h name).added).facts) (view h.facts)
unfolding abort
abort_alone i h name = of_session (abandoned_session i (view h.facts) name) refl
  where
    outcome : Option Session → Outcome
    outcome x = unwrap_or (option_map (abort_outcome i h (view h.facts)) x) nothing_aborted

    of_session : (x : Option Session) → abandoned_session i (view h.facts) name ≡ x
        → ReadsAlike (view (with_added h (outcome x).added).facts) (view h.facts)
    of_session None e = reads_alike (view h.facts) (view h.facts) refl refl refl refl
    of_session (Some s) e =
        let one = (first_abandoned i h.facts name s e).is_one in
        let known = live-known h.facts s (abandoned_lives i (view h.facts) name s one) in
        let all : List SessionFact = h.facts ++ (s, Aborted) ∷ [] in
        let same = view-Same (with_added h (outcome (Some s)).added).facts all (sorted-In all) in
        subst (λ (w : View). ReadsAlike w (view h.facts)) (sym same)
        (more_alike h.facts s (session_known h.facts s known))

-- ---- form

-- a live session of a holding of the form is of the form
pub live_in_form : (h : Holding) → is_holding h ≡ true → (s : Session)
    → is_live (view h.facts) s ≡ true → is_session s ≡ true
live_in_form h form s l =
    let r = live_reached (view h.facts) s l in
    let own : Fact = Field r.0 r.2.0 r.2.1 in
    let shown = sym ((sessions_alone h.facts s).shows r.0) ∙ r.3 in
    let there : In (s, own) h.facts =
    facts_on-In h.facts s own (fact_there (facts_on h.facts s) r.0 r.2 shown) in
    first_so _ _ (first_so _ _ (held_fact h form (s, own) there))

-- what an abort adds is of the form
pub aborting_in_form : (i : ℕ) (h : Holding) (name : Option (List ℕ)) (o : Operation)
    → i < site_limit → is_holding h ≡ true → lacks_counter_to_abort i h name ≡ false
    → (abort i h name).added ≡ Some o → is_operation o ≡ true
unfolding abort lacks_counter_to_abort
aborting_in_form i h name o low form = of_session (abandoned_session i (view h.facts) name) refl
  where
    -- the fact may stand in an operation on a session of that kind
    MayAbort : Kind → Type 0
    MayAbort k =
        (is_request_number k 0 ≡ true)
        × ((fits k Aborted && is_tagged k (h.clock + 1) i 0 Aborted) ≡ true)

    of_kind : (k : Kind) → is_gx k ≡ false → MayAbort k
    of_kind Gx e = clash true refl e
    of_kind Af e = (refl, refl)

    of_session : (x : Option Session) → abandoned_session i (view h.facts) name ≡ x
        → (is_some x && is_clock_full h) ≡ false
        → (unwrap_or (option_map (abort_outcome i h (view h.facts)) x) nothing_aborted).added ≡ Some o
        → is_operation o ≡ true
    of_session None e full added = absurd (cc)
    of_session (Some s) e full added =
        let one = (first_abandoned i h.facts name s e).is_one in
        let parts = of_kind s.kind (abandoned_kind i (view h.facts) name s one) in
        let stamp = stamp_left i h (can_add i h low form full) in
        let session = live_in_form h form s (abandoned_lives i (view h.facts) name s one) in
        subst (λ (z : Operation). is_operation z ≡ true) (some_same _ o added)
        (alone_in_form (h.clock + 1) i 0 s Aborted stamp parts.0 session parts.1)
