-- The facts of an operation joined into the record of its session, and that put in its place: what is held is what taking the operation holds.
use Rattle.std.proofs.Common.{◌≡◌, ℕ, max, Bool, true, false, not, List, [], ◌∷◌, ◌++◌, ◌↔◌, refl, sym, ap, ◌∙◌, subst, filter, Equal}
use Rattle.std.proofs.lemmas.List.Elements.{filter_map-append}
use Rattle.std.specs.Cmp.{tied_itself}
use Rattle.std.specs.Ordering.{is_eq, ordering_then}
use Rattle.pcrf_values.specs.Ascending.{Rises}
use Rattle.pcrf_values.specs.Sets.{In, Same}
use Rattle.pcrf_values.proofs.Plain.{clash}
use Rattle.pcrf_values.proofs.AscendingLaws.{ascending-ascending, same_ascending, filter_map-ascending}
use Rattle.pcrf_values.proofs.OrderLaws.{eq_is, eq_itself}
use Rattle.pcrf_values.proofs.SetLaws.{Same-back, Same-through}
use Rattle.pcrf_values.specs.Facts.{Fact, fact_cmp}
use Rattle.pcrf_values.specs.Held.{kept_list, join_of, kept_set}
use Rattle.pcrf_values.proofs.FactLaws.{fact_ranked}
use Rattle.pcrf_values.proofs.JoinedLaws.{kept-Same, joined_comm, joined-held}
use Rattle.pcrf_values.proofs.JoinedLaws as facts
use Rattle.pcrf_model.specs.Sessions.{Session, session_cmp}
use Rattle.pcrf_model.specs.Holdings.{Holding, SessionFact, session_fact_cmp, on_session, under, facts_on, kept_facts, kept_of, with_facts_of}
use Rattle.pcrf_model.specs.Operations.{Operation, with_operation}
use Rattle.pcrf_model.specs.Forms.{are_up_to, is_holding, is_operation}
use Rattle.pcrf_model.proofs.FormLaws.{kept_in_form, with_operation_form}
use Rattle.pcrf_model.proofs.HoldingLaws.{session_ranked, session_fact_ranked, on_session-is, sorted-In, In-facts_on, facts_on-In, facts_on-Same, facts_on-kept, replaces_one}
use Rattle.pcrf_model.proofs.RecordForms.{holding_up_to}
use Rattle.pcrf_model.proofs.TakingLaws.{taking_changes_one}

-- ---- the facts of one session among others

-- those of two lists
pub facts_on-append : (xs ys : List SessionFact) (s : Session) → facts_on (xs ++ ys) s ≡ facts_on xs s ++ facts_on ys s
facts_on-append xs ys s = filter_map-append (on_session s) xs ys

-- of a session's own
pub own_under : (s : Session) (fs : List Fact) → facts_on (under s fs) s ≡ fs
own_under s [] = refl
own_under s (f ∷ fs) = rw (eq_itself session_ranked s) (ap (λ (l : List Fact). f ∷ l) (own_under s fs))

-- those that a rising list has rise
facts_on_rise : (facts : List SessionFact) (s : Session) → Rises session_fact_cmp facts → Rises fact_cmp (facts_on facts s)
facts_on_rise facts s r = filter_map-ascending session_fact_cmp fact_cmp (on_session s) facts
    (λ x y u w _ _ less p q.
    let a = on_session-is s x u p in
    let b = on_session-is s y w q in
    let tied : session_cmp x.0 y.0 ≡ Equal = ap (λ (t : Session). session_cmp t y.0) a.0 ∙ ap (session_cmp s) b.0 ∙ tied_itself session_ranked.total s in
    ap (λ (f : Fact). fact_cmp f w) (sym a.1) ∙ ap (fact_cmp x.1) (sym b.1) ∙ sym (ap (λ o. ordering_then o (fact_cmp x.1 y.1)) tied) ∙ less)
    r

-- a record joined with the kept facts of a request has what is kept of them all
pub held-append : (ks fs : List Fact) → join_of ks (kept_list fs) ≡ kept_list (ks ++ fs)
held-append ks fs = joined_comm ks (kept_list fs) ∙ joined-held fs ks ∙ joined_comm fs ks

-- ---- a record in its place

module _ (h : Holding) (o : Operation) (is_kept : kept_of h ≡ h) (clock : ℕ) (counter : max h.clock o.counter ≡ clock) where
  -- its session
  abbrev s : Session
  s = o.session

  -- the facts of both, as they are joined
  abbrev both : List Fact
  both = join_of (facts_on h.facts s) (kept_list o.facts)

  -- what is held with the record of these
  abbrev placed : Holding
  placed = with_facts_of h s both clock

  -- what is held with the operation
  abbrev taken : Holding
  taken = kept_of (with_operation h o)

  -- all facts, before any is overshadowed
  abbrev all : List SessionFact
  all = (with_operation h o).facts

  -- those of the session are its own and the operation's
  alls : Same (facts_on all s) (facts_on h.facts s ++ o.facts)
  alls = subst (Same (facts_on all s))
      (facts_on-append h.facts (under s o.facts) s ∙ ap (λ (l : List Fact). facts_on h.facts s ++ l) (own_under s o.facts))
      (facts_on-Same all (h.facts ++ under s o.facts) s (sorted-In (h.facts ++ under s o.facts)))

  -- so the session holds the joined ones
  here_ : Same (facts_on taken.facts s) both
  here_ =
      let mine : List Fact = facts_on h.facts s ++ o.facts in
      let to_kept = Same-through (facts_on taken.facts s) (facts_on (kept_facts all) s) (kept_set (facts_on all s))
      (facts_on-Same taken.facts (kept_facts all) s (sorted-In (kept_facts all))) (facts_on-kept all s) in
      let to_mine = Same-through (facts_on taken.facts s) (kept_set (facts_on all s)) (kept_set mine) to_kept (kept-Same (facts_on all s) mine alls) in
      let to_held = Same-through (facts_on taken.facts s) (kept_set mine) (kept_list mine) to_mine (Same-back (kept_list mine) (kept_set mine) (facts.sorted-In (kept_set mine))) in
      subst (Same (facts_on taken.facts s)) (sym (held-append (facts_on h.facts s) o.facts)) to_held

  -- a fact of the session
  own : (f : Fact) → In (s, f) placed.facts → In (s, f) taken.facts
  own f i = facts_on-In taken.facts s f ((here_ f).1 (((replaces_one h s both clock).there f).0 (In-facts_on placed.facts s f i)))

  own_back : (f : Fact) → In (s, f) taken.facts → In (s, f) placed.facts
  own_back f i = facts_on-In placed.facts s f (((replaces_one h s both clock).there f).1 ((here_ f).0 (In-facts_on taken.facts s f i)))

  -- a fact of another
  others_ : (r : Session) → (r ≡ s → ⊥) → (f : Fact) → In (r, f) placed.facts → In (r, f) taken.facts
  others_ r n f i =
      let stays = (replaces_one h s both clock).elsewhere r n f in
      let goes = (taking_changes_one h o is_kept).elsewhere r n f in
      facts_on-In taken.facts r f (goes.0 (stays.0 (In-facts_on placed.facts r f i)))

  others_back : (r : Session) → (r ≡ s → ⊥) → (f : Fact) → In (r, f) taken.facts → In (r, f) placed.facts
  others_back r n f i =
      let stays = (replaces_one h s both clock).elsewhere r n f in
      let goes = (taking_changes_one h o is_kept).elsewhere r n f in
      facts_on-In placed.facts r f (stays.1 (goes.1 (In-facts_on taken.facts r f i)))

  -- the same facts are there
  same_facts : Same placed.facts taken.facts
  same_facts x = by_session (is_eq (session_cmp s x.0)) refl
    where
      by_session : (b : Bool) → is_eq (session_cmp s x.0) ≡ b → In x placed.facts ↔ In x taken.facts
      by_session true e =
          let here : s ≡ x.0 = eq_is session_ranked s x.0 e in
          subst (λ (r : Session). In (r, x.1) placed.facts ↔ In (r, x.1) taken.facts) here (own x.1, own_back x.1)
      by_session false e =
          let n : x.0 ≡ s → ⊥ = λ is. clash (is_eq (session_cmp s x.0)) (ap (λ (r : Session). is_eq (session_cmp s r)) is ∙ eq_itself session_ranked s) e in
          (others_ x.0 n x.1, others_back x.0 n x.1)

  -- so it is the same holding
  pub placed_is_taken : placed ≡ taken
  placed_is_taken =
      let facts = same_ascending session_fact_cmp session_fact_ranked placed.facts taken.facts
      (ascending-ascending session_fact_cmp session_fact_ranked (filter (λ x. not (is_eq (session_cmp s x.0))) h.facts ++ under s both))
      (ascending-ascending session_fact_cmp session_fact_ranked (kept_facts all)) same_facts in
      let clocks = sym counter in
      λ i. record { facts = facts i; clock = clocks i }

  -- the session has the facts of the record then
  pub taken_facts : facts_on taken.facts s ≡ both
  taken_facts = same_ascending fact_cmp fact_ranked (facts_on taken.facts s) both
      (facts_on_rise taken.facts s (ascending-ascending session_fact_cmp session_fact_ranked (kept_facts all)))
      (ascending-ascending fact_cmp fact_ranked (kept_set (facts_on h.facts s ++ kept_list o.facts))) here_

  -- and no tag is above the clock
  placed_up_to : is_holding h ≡ true → is_operation o ≡ true → are_up_to clock placed.facts ≡ true
  placed_up_to form formed =
      let up = holding_up_to taken (kept_in_form (with_operation h o) (with_operation_form h o form formed)) in
      subst (λ (k : Holding). are_up_to clock k.facts ≡ true) (sym placed_is_taken) (subst (λ (n : ℕ). are_up_to n taken.facts ≡ true) counter up)

-- ---- the record that is known of a session with an operation

module _ (h : Holding) (o : Operation) (is_kept : kept_of h ≡ h) (clock : ℕ) (counter : max h.clock o.counter ≡ clock) (s : Session) (session : o.session ≡ s) (known : List Fact) (joins : known ≡ join_of (facts_on h.facts s) (kept_list o.facts)) where
  -- what is put there
  put_there : with_facts_of h s known clock ≡ with_facts_of h o.session (join_of (facts_on h.facts o.session) (kept_list o.facts)) clock
  put_there = ap (λ (b : List Fact). with_facts_of h s b clock) joins ∙ ap (λ (r : Session). with_facts_of h r (join_of (facts_on h.facts r) (kept_list o.facts)) clock) (sym session)

  -- in its place, the operation is taken
  pub put_is_taken : with_facts_of h s known clock ≡ kept_of (with_operation h o)
  put_is_taken = put_there ∙ placed_is_taken h o is_kept clock counter

  -- the session's facts are its facts then
  pub put_known : known ≡ facts_on (kept_of (with_operation h o)).facts s
  put_known =
      joins
      ∙ sym (subst (λ (r : Session). facts_on (kept_of (with_operation h o)).facts r ≡ join_of (facts_on h.facts r) (kept_list o.facts)) session (taken_facts h o is_kept clock counter))

  -- and no tag is above the clock
  pub put_up_to : is_holding h ≡ true → is_operation o ≡ true → are_up_to clock (with_facts_of h s known clock).facts ≡ true
  put_up_to form formed = subst (λ (k : Holding). are_up_to clock k.facts ≡ true) (sym put_there) (placed_up_to h o is_kept clock counter form formed)
