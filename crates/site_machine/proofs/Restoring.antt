-- What a site holds after fields are set, once more, or not at all.
use Rattle.std.proofs.Common.{◌≡◌, max, Bool, true, false, not, List, [], ◌++◌, ◌↔◌, inl, inr, refl, sym, ap, ◌∙◌, subst, arith, filter}
use Rattle.std.specs.Ordering.{is_eq}
use Rattle.pcrf_values.specs.Ascending.{ascending, Rises}
use Rattle.pcrf_values.specs.Sets.{In, Same}
use Rattle.pcrf_values.proofs.Plain.{clash, is_false}
use Rattle.pcrf_values.proofs.AscendingLaws.{ascending-ascending, same_ascending}
use Rattle.pcrf_values.proofs.OrderLaws.{eq_is, eq_itself}
use Rattle.pcrf_values.proofs.SetLaws.{In-left, In-right, In-cases, top_of}
use Rattle.pcrf_values.specs.Facts.{Fact}
use Rattle.pcrf_model.specs.Sessions.{Session, session_cmp}
use Rattle.pcrf_model.specs.Holdings.{Holding, SessionFact, session_fact_cmp, is_shaded_there_by, under, facts_on, kept_facts, kept_of, with_facts_of}
use Rattle.pcrf_model.specs.Operations.{Operation, with_operation}
use Rattle.pcrf_model.proofs.HoldingLaws.{session_ranked, session_fact_ranked, there_irr, there_trans, same_session, kept_facts-In, In-kept_facts, sorted-In, sorted-Same, In-facts_on, facts_on-In, In-under, under-In, replaces_one}
use Rattle.pcrf_model.proofs.UnionLaws.{kept_of-union}

module _ (h : Holding) (o : Operation) (kept : kept_of h ≡ h) where
  -- its session
  abbrev s : Session
  s = o.session

  -- the facts of both
  abbrev both : List SessionFact
  both = h.facts ++ under s o.facts

  -- what is held with it
  abbrev with_it : Holding
  with_it = kept_of (with_operation h o)

  -- with the session's own facts put back
  abbrev put_back : Holding
  put_back = with_facts_of with_it s (facts_on h.facts s) h.clock

  -- what is held is kept, in order
  held_is : ascending session_fact_cmp (kept_facts h.facts) ≡ h.facts
  held_is = ap (λ (k : Holding). k.facts) kept

  -- a fact that is held is kept
  is_kept : (x : SessionFact) → In x h.facts → In x (kept_facts h.facts)
  is_kept x i = (sorted-In (kept_facts h.facts) x).0 (subst (In x) (sym held_is) i)

  -- of another session, it is held just where it was
  other_there : (x : SessionFact) → (x.0 ≡ s → ⊥) → In x with_it.facts → In x h.facts
  other_there x n i =
      let k = (kept_facts-In x (ascending session_fact_cmp both) ((sorted-In (kept_facts (ascending session_fact_cmp both)) x).0 i)).0 in
      elim (In-cases x h.facts (under s o.facts) ((sorted-In both x).0 k)) [
        | inl j ↦ j
        | inr j ↦ absurd (n (under-In s x o.facts j).0)
      ]

  -- nothing new overshadows it
  not_shaded : (x : SessionFact) → (x.0 ≡ s → ⊥) → In x h.facts → (y : SessionFact) → In y (ascending session_fact_cmp both) → is_shaded_there_by x y ≡ false
  not_shaded x n i y j = elim (In-cases y h.facts (under s o.facts) ((sorted-In both y).0 j)) [
    | inl l ↦ (kept_facts-In x h.facts (is_kept x i)).1 y l
    | inr l ↦ is_false (is_shaded_there_by x y) (λ t. n (same_session x y t ∙ (under-In s y o.facts l).0))
  ]

  other_back : (x : SessionFact) → (x.0 ≡ s → ⊥) → In x h.facts → In x with_it.facts
  other_back x n i = (sorted-In (kept_facts (ascending session_fact_cmp both)) x).1
      (In-kept_facts x (ascending session_fact_cmp both) ((sorted-In both x).1 (In-left x h.facts (under s o.facts) i)) (not_shaded x n i))

  -- the session's own facts
  own : (f : Fact) → In (s, f) put_back.facts → In (s, f) h.facts
  own f i = facts_on-In h.facts s f (((replaces_one with_it s (facts_on h.facts s) h.clock).there f).0 (In-facts_on put_back.facts s f i))

  own_back : (f : Fact) → In (s, f) h.facts → In (s, f) put_back.facts
  own_back f i = facts_on-In put_back.facts s f (((replaces_one with_it s (facts_on h.facts s) h.clock).there f).1 (In-facts_on h.facts s f i))

  -- those of another
  others_ : (r : Session) → (r ≡ s → ⊥) → (f : Fact) → In (r, f) put_back.facts → In (r, f) h.facts
  others_ r n f i =
      let e = (replaces_one with_it s (facts_on h.facts s) h.clock).elsewhere r n in
      other_there (r, f) n (facts_on-In with_it.facts r f ((e f).0 (In-facts_on put_back.facts r f i)))

  others_back : (r : Session) → (r ≡ s → ⊥) → (f : Fact) → In (r, f) h.facts → In (r, f) put_back.facts
  others_back r n f i =
      let e = (replaces_one with_it s (facts_on h.facts s) h.clock).elsewhere r n in
      facts_on-In put_back.facts r f ((e f).1 (In-facts_on with_it.facts r f (other_back (r, f) n i)))

  -- so the same facts are there
  same_facts : Same put_back.facts h.facts
  same_facts x = by_session (is_eq (session_cmp s x.0)) refl
    where
      by_session : (b : Bool) → is_eq (session_cmp s x.0) ≡ b → In x put_back.facts ↔ In x h.facts
      by_session true e =
          let here : s ≡ x.0 = eq_is session_ranked s x.0 e in
          subst (λ (r : Session). In (r, x.1) put_back.facts ↔ In (r, x.1) h.facts) here (own x.1, own_back x.1)
      by_session false e =
          let n : x.0 ≡ s → ⊥ = λ is. clash (is_eq (session_cmp s x.0)) (ap (λ (r : Session). is_eq (session_cmp s r)) is ∙ eq_itself session_ranked s) e in
          (others_ x.0 n x.1, others_back x.0 n x.1)

  -- and all is as it was
  pub restored : put_back ≡ h
  restored =
      let rise : Rises session_fact_cmp h.facts = subst (Rises session_fact_cmp) held_is (ascending-ascending session_fact_cmp session_fact_ranked (kept_facts h.facts)) in
      let facts = same_ascending session_fact_cmp session_fact_ranked put_back.facts h.facts (ascending-ascending session_fact_cmp session_fact_ranked (filter (λ x. not (is_eq (session_cmp s x.0))) with_it.facts ++ under s (facts_on h.facts s))) rise same_facts in
      λ i. record { facts = facts i; clock = h.clock }

-- ---- once more, with what is told

module _ (h : Holding) (o p : Operation) (session : o.session ≡ p.session) (counter : o.counter ≡ p.counter) (more : (f : Fact) → In f o.facts → In f p.facts) where
  -- the second has all that the first has
  all_there : Same (ascending session_fact_cmp (h.facts ++ under o.session o.facts) ++ under p.session p.facts) (h.facts ++ under p.session p.facts)
  all_there x = (there, back)
    where
      new : In x (under o.session o.facts) → In x (h.facts ++ under p.session p.facts)
      new i =
          let u = under-In o.session x o.facts i in
          In-right x h.facts (under p.session p.facts) (subst (λ (r : Session). In (r, x.1) (under p.session p.facts)) (sym (u.0 ∙ session)) (In-under p.session x.1 p.facts (more x.1 u.1)))

      there : In x (ascending session_fact_cmp (h.facts ++ under o.session o.facts) ++ under p.session p.facts) → In x (h.facts ++ under p.session p.facts)
      there i = elim (In-cases x (ascending session_fact_cmp (h.facts ++ under o.session o.facts)) (under p.session p.facts) i) [
        | inl j ↦ elim (In-cases x h.facts (under o.session o.facts) ((sorted-In (h.facts ++ under o.session o.facts) x).0 j)) [
          | inl l ↦ In-left x h.facts (under p.session p.facts) l
          | inr l ↦ new l
        ]
        | inr j ↦ In-right x h.facts (under p.session p.facts) j
      ]

      back : In x (h.facts ++ under p.session p.facts) → In x (ascending session_fact_cmp (h.facts ++ under o.session o.facts) ++ under p.session p.facts)
      back i = elim (In-cases x h.facts (under p.session p.facts) i) [
        | inl j ↦ In-left x (ascending session_fact_cmp (h.facts ++ under o.session o.facts)) (under p.session p.facts)
            ((sorted-In (h.facts ++ under o.session o.facts) x).1 (In-left x h.facts (under o.session o.facts) j))
        | inr j ↦ In-right x (ascending session_fact_cmp (h.facts ++ under o.session o.facts)) (under p.session p.facts) j
      ]

  -- the clock stands at the one counter
  one_clock : max (max h.clock o.counter) p.counter ≡ max h.clock p.counter
  one_clock = rw counter (omega arith)

  -- so the second alone is held
  pub once_more : kept_of (with_operation (kept_of (with_operation h o)) p) ≡ kept_of (with_operation h p)
  once_more =
      let new : Holding = record { facts = under p.session p.facts; clock = p.counter } in
      let facts = sorted-Same _ _ all_there in
      kept_of-union (with_operation h o) new
      ∙ ap kept_of (λ i. record { facts = facts i; clock = one_clock i })

-- ---- the session is known

-- an operation leaves a fact on its session
pub known_after : (h : Holding) (o : Operation) (f : Fact) → In f o.facts → facts_on (kept_of (with_operation h o)).facts o.session ≡ [] → ⊥
known_after h o f i none =
    let s : Session = o.session in
    let both : List SessionFact = h.facts ++ under s o.facts in
    let held : List SessionFact = ascending session_fact_cmp both in
    let there : In (s, f) held = (sorted-In both (s, f)).1 (In-right (s, f) h.facts (under s o.facts) (In-under s f o.facts i)) in
    let top = top_of is_shaded_there_by there_irr there_trans (s, f) held there in
    let on : s ≡ top.0.0 = elim top.2 [ inl e ↦ ap (λ (x : SessionFact). x.0) e | inr t ↦ same_session (s, f) top.0 t ] in
    let kept : In top.0 (kept_of (with_operation h o)).facts = (sorted-In (kept_facts held) top.0).1 top.1 in
    let its : In top.0.1 (facts_on (kept_of (with_operation h o)).facts s) =
    In-facts_on (kept_of (with_operation h o)).facts s top.0.1 (subst (λ (r : Session). In (r, top.0.1) (kept_of (with_operation h o)).facts) (sym on) kept) in
    subst (λ (fs : List Fact). In top.0.1 fs) none its
