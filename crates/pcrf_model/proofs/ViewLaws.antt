-- The view is that of the kept facts, and that of the set.
use Rattle.std.proofs.Common.{◌≡◌, true, List, map, ◌⊎◌, Option, Some, None, inl, inr, refl, sym, ap, ◌∙◌, subst, option_map}
use Rattle.std.specs.List.{filter_map}
use Rattle.pcrf_values.specs.Ascending.{ascending}
use Rattle.pcrf_values.specs.Sets.{In, Same}
use Rattle.pcrf_values.proofs.Plain.{none_some}
use Rattle.pcrf_values.proofs.OrderLaws.{IsRanked, pair_ranked, on_ranked}
use Rattle.pcrf_values.proofs.SetLaws.{top_of, filter_map-Same, filter_map-In, In-filter_map, In-map, map-In, map-Same}
use Rattle.pcrf_values.proofs.AscendingLaws.{ascending-In, ascending-Same}
use Rattle.pcrf_values.specs.Places.{Place}
use Rattle.pcrf_values.specs.Values.{Entry}
use Rattle.pcrf_values.specs.Facts.{Fact, End, Removed, Field, Aborted}
use Rattle.pcrf_values.specs.Held.{kept_set, kept_list}
use Rattle.pcrf_values.specs.FactLaws.{ShowTheSame}
use Rattle.pcrf_values.proofs.FactLaws.{place_ranked, entry_ranked}
use Rattle.pcrf_values.proofs.JoinedLaws.{sorted-In}
use Rattle.pcrf_values.proofs.ShownLaws.{members_show_the_same, held_shows_the_same, fact_there}
use Rattle.pcrf_model.specs.Sessions.{Session, session_cmp}
use Rattle.pcrf_model.specs.Holdings.{SessionFact, is_shaded_there_by, kept_facts, facts_on}
use Rattle.pcrf_model.specs.Views.{Shown, shown_cmp, shown_of, entry_shown_on, shown_by_fact, view}
use Rattle.pcrf_model.specs.Laws.{ReadsEachSession}
use Rattle.pcrf_model.proofs.HoldingLaws.{session_ranked, there_irr, there_trans, kept_facts-In, facts_on-Same, facts_on-kept, facts_on-In, same_session}

-- what shows is ranked
pub shown_ranked : IsRanked shown_cmp
shown_ranked = on_ranked (λ x. (x.session, (x.place, (x.tag, x.value)))) (λ k. record { session = k.0; place = k.1.0; tag = k.1.1.0; value = k.1.1.1 }) (λ _. refl) (pair_ranked session_ranked (pair_ranked place_ranked entry_ranked))

-- of each session its own facts are read
pub sessions_alone : (facts : List SessionFact) (s : Session) → ReadsEachSession facts s
unfolding view
sessions_alone facts s = record { shows = λ p. refl; ended = refl; removals = refl; aborts = refl }

-- what the facts of a session show, of all that show
abbrev all_shown : (Session → Place → Option Entry) → List SessionFact → List Shown
all_shown shows = filter_map (λ (x : SessionFact). shown_by_fact shows x.0 x.1)

-- the session of a fact
abbrev pub its_session : SessionFact → Session
its_session x = x.0

-- views are the same where each session shows the same, the same show, and the same sessions have facts
same_view : (xs ys : List SessionFact) → ((s : Session) → ShowTheSame (facts_on xs s) (facts_on ys s)) → Same (all_shown (entry_shown_on ys) xs) (all_shown (entry_shown_on ys) ys) → Same (map its_session xs) (map its_session ys) → view xs ≡ view ys
unfolding view
same_view xs ys each all sessions =
    let shows : entry_shown_on xs ≡ entry_shown_on ys = λ i s p. (each s).shows p i in
    let listed : ascending shown_cmp (all_shown (entry_shown_on xs) xs) ≡ ascending shown_cmp (all_shown (entry_shown_on ys) ys) =
    ap (λ (f : Session → Place → Option Entry). ascending shown_cmp (all_shown f xs)) shows
    ∙ ascending-Same shown_cmp shown_ranked _ _ all in
    let known : ascending session_cmp (map its_session xs) ≡ ascending session_cmp (map its_session ys) = ascending-Same session_cmp session_ranked _ _ sessions in
    λ i. record {
      shows = shows i;
      ended = λ s. (each s).ended i;
      removals = λ s. (each s).removals i;
      aborted = λ s. (each s).aborts i;
      all = listed i;
      sessions = known i;
    }

-- the view depends on the members alone
pub view-Same : (xs ys : List SessionFact) → Same xs ys → view xs ≡ view ys
view-Same xs ys s = same_view xs ys (λ a. members_show_the_same (facts_on xs a) (facts_on ys a) (facts_on-Same xs ys a s)) (filter_map-Same (λ (x : SessionFact). shown_by_fact (entry_shown_on ys) x.0 x.1) xs ys s) (map-Same its_session xs ys s)

-- ---- the kept facts

-- facts that show what other facts show, which show what all facts show
show_through : (xs ys zs : List Fact) → ShowTheSame xs ys → ShowTheSame ys zs → ShowTheSame xs zs
show_through xs ys zs f g = record { shows = λ p. f.shows p ∙ g.shows p; ended = f.ended ∙ g.ended; removals = f.removals ∙ g.removals; aborts = f.aborts ∙ g.aborts }

-- on each session the kept facts show the same
kept_shows : (facts : List SessionFact) (s : Session) → ShowTheSame (facts_on (kept_facts facts) s) (facts_on facts s)
kept_shows facts s =
    let own : List Fact = facts_on facts s in
    show_through (facts_on (kept_facts facts) s) (kept_list own) own
    (members_show_the_same (facts_on (kept_facts facts) s) (kept_list own) (λ f. (λ i. (sorted-In (kept_set own) f).1 ((facts_on-kept facts s f).0 i), λ i. (facts_on-kept facts s f).1 ((sorted-In (kept_set own) f).0 i))))
    (held_shows_the_same own)

module _ (facts : List SessionFact) where
  -- the kept facts have the same sessions
  sessions-kept : Same (map its_session (kept_facts facts)) (map its_session facts)
  sessions-kept s = (
    λ h. let r = map-In its_session s (kept_facts facts) h in subst (λ (w : Session). In w (map its_session facts)) (sym r.2) (In-map its_session r.0 facts (kept_facts-In r.0 facts r.1).0),
    λ h.
        let r = map-In its_session s facts h in
        let t = top_of is_shaded_there_by there_irr there_trans r.0 facts r.1 in
        subst (λ (w : Session). In w (map its_session (kept_facts facts))) (sym (r.2 ∙ up r.0 t.0 t.2)) (In-map its_session t.0 (kept_facts facts) t.1),
  )
    where
      up : (x y : SessionFact) → (x ≡ y) ⊎ (is_shaded_there_by x y ≡ true) → x.0 ≡ y.0
      up x y (inl q) = ap its_session q
      up x y (inr h) = same_session x y h

  -- what a fact's place shows
  abbrev shows_there : SessionFact → Option Shown
  shows_there x = shown_by_fact (entry_shown_on facts) x.0 x.1

  -- what is shown is of a field that shows
  shown_field : (s : Session) (f : Fact) (x : Shown) → shown_by_fact (entry_shown_on facts) s f ≡ Some x → (p : Place) × (e : Entry) × (entry_shown_on facts s p ≡ Some e) × (shown_of s p e ≡ x)
  shown_field s End x h = none_some x h
  shown_field s (Removed r) x h = none_some x h
  shown_field s Aborted x h = none_some x h
  shown_field s (Field p t v) x h = of_entry (entry_shown_on facts s p) refl h
    where
      of_entry : (o : Option Entry) → entry_shown_on facts s p ≡ o → option_map (shown_of s p) o ≡ Some x → (p : Place) × (e : Entry) × (entry_shown_on facts s p ≡ Some e) × (shown_of s p e ≡ x)
      of_entry None q k = none_some x k
      of_entry (Some e) q k = (p, e, q, cc)

  -- what shows is there
  pub In-shown : (s : Session) (p : Place) (e : Entry) → entry_shown_on facts s p ≡ Some e → In (shown_of s p e) (all_shown (entry_shown_on facts) facts)
  In-shown s p e h =
      In-filter_map shows_there (s, Field p e.0 e.1) (shown_of s p e) facts
      (facts_on-In facts s (Field p e.0 e.1) (fact_there (facts_on facts s) p e h))
      (ap (option_map (shown_of s p)) h)

  -- and what is there shows
  pub shown-In : (x : Shown) → In x (all_shown (entry_shown_on facts) facts) → entry_shown_on facts x.session x.place ≡ Some (x.tag, x.value)
  shown-In x i =
      let r = filter_map-In shows_there x facts i in
      let k = shown_field r.0.0 r.0.1 x r.2 in
      subst (λ (y : Shown). entry_shown_on facts y.session y.place ≡ Some (y.tag, y.value)) k.3 k.2

  -- the same places show by what is kept
  all-kept : Same (all_shown (entry_shown_on facts) (kept_facts facts)) (all_shown (entry_shown_on facts) facts)
  all-kept x = (
    λ h. let r = filter_map-In shows_there x (kept_facts facts) h in In-filter_map shows_there r.0 x facts (kept_facts-In r.0 facts r.1).0 r.2,
    λ h.
        let r = filter_map-In shows_there x facts h in
        let k = shown_field r.0.0 r.0.1 x r.2 in
        let s : Session = r.0.0 in
        let f : Fact = Field k.0 k.1.0 k.1.1 in
        In-filter_map shows_there (s, f) x (kept_facts facts)
        (facts_on-In (kept_facts facts) s f (fact_there (facts_on (kept_facts facts) s) k.0 k.1 ((kept_shows facts s).shows k.0 ∙ k.2)))
        (ap (option_map (shown_of s k.0)) k.2 ∙ ap Some k.3),
  )

-- the view is that of what is kept
pub view-kept : (facts : List SessionFact) → view (kept_facts facts) ≡ view facts
view-kept facts = same_view (kept_facts facts) facts (kept_shows facts) (all-kept facts) (sessions-kept facts)

-- ---- what the view lists

-- what shows is listed
pub In-all : (facts : List SessionFact) (s : Session) (p : Place) (e : Entry) → (view facts).shows s p ≡ Some e → In (shown_of s p e) (view facts).all
unfolding view
In-all facts s p e h = (ascending-In shown_cmp shown_ranked (all_shown (entry_shown_on facts) facts) (shown_of s p e)).1 (In-shown facts s p e h)

-- and what is listed shows
pub all-shows : (facts : List SessionFact) (x : Shown) → In x (view facts).all → (view facts).shows x.session x.place ≡ Some (x.tag, x.value)
unfolding view
all-shows facts x i = shown-In facts x ((ascending-In shown_cmp shown_ranked (all_shown (entry_shown_on facts) facts) x).0 i)

-- a session that shows something has a fact
pub shows-known : (facts : List SessionFact) (s : Session) (p : Place) (e : Entry) → (view facts).shows s p ≡ Some e → In s (view facts).sessions
unfolding view
shows-known facts s p e h =
    let f : Fact = Field p e.0 e.1 in
    (ascending-In session_cmp session_ranked (map its_session facts) s).1 (In-map its_session (s, f) facts (facts_on-In facts s f (fact_there (facts_on facts s) p e h)))
