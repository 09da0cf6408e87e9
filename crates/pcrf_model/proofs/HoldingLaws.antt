-- The orders of sessions and of facts with their sessions; overshadowing on each session; the facts of one session.
use Rattle.std.proofs.Common.{◌≡◌, ℕ, zero, suc, Bool, true, false, cond, not, List, ◌++◌, Some, None, inl, inr, refl, sym, ap, subst}
use Rattle.std.specs.Ordering.{is_eq}
use Rattle.std.specs.Cmp.{first_so, second_so}
use Rattle.std.specs.List.{filter}
use Rattle.pcrf_values.specs.Ascending.{ascending}
use Rattle.pcrf_values.specs.Sets.{In, Same}
use Rattle.pcrf_values.proofs.Plain.{clash, is_false, not_true, both}
use Rattle.pcrf_values.proofs.OrderLaws.{IsRanked, nat_ranked, text_ranked, pair_ranked, on_ranked, eq_is, eq_itself}
use Rattle.pcrf_values.proofs.SetLaws.{In-left, In-right, In-cases, In-map, map-In, In-filter_map, filter_map-In, filter_map-Same, In-filter, filter-In, maximal-In, In-maximal, maximal-append, maximal-Same}
use Rattle.pcrf_values.proofs.AscendingLaws.{ascending-In, ascending-Same}
use Rattle.pcrf_values.proofs.PartLaws.{IsStrict}
use Rattle.pcrf_values.specs.Facts.{Fact, is_shaded_by}
use Rattle.pcrf_values.specs.Held.{kept_set}
use Rattle.pcrf_values.proofs.FactLaws.{fact_ranked, shaded_irr, shaded_trans}
use Rattle.pcrf_values.proofs.JoinedLaws.{kept-In, In-kept}
use Rattle.pcrf_model.specs.Sessions.{Kind, Gx, Af, Session, kind_number, session_cmp}
use Rattle.pcrf_model.specs.Holdings.{SessionFact, session_fact_cmp, is_shaded_there_by, kept_facts, under, on_session, facts_on, Holding, with_facts_of}
use Rattle.pcrf_model.specs.Laws.{ReplacesOne}

-- the kind of that number
abbrev kind_back : ℕ → Kind
kind_back zero = Gx
kind_back (suc zero) = Gx
kind_back (suc (suc n)) = Af

-- numbers of kinds are undone
kind_undo : (k : Kind) → kind_back (kind_number k) ≡ k
kind_undo Gx = refl
kind_undo Af = refl

-- sessions are ranked
pub session_ranked : IsRanked session_cmp
session_ranked = on_ranked (λ s. (kind_number s.kind, s.id)) (λ p. record { kind = kind_back p.0; id = p.1 }) (λ s i. record { kind = kind_undo s.kind i; id = s.id }) (pair_ranked nat_ranked text_ranked)

-- facts with their sessions are ranked
pub session_fact_ranked : IsRanked session_fact_cmp
session_fact_ranked = pair_ranked session_ranked fact_ranked

-- ---- overshadowing

-- what is overshadowed is on the session of what overshadows it
pub same_session : (x y : SessionFact) → is_shaded_there_by x y ≡ true → x.0 ≡ y.0
same_session x y h = eq_is session_ranked x.0 y.0 (first_so _ _ h)

-- and by that fact
pub shaded_there : (x y : SessionFact) → is_shaded_there_by x y ≡ true → is_shaded_by x.1 y.1 ≡ true
shaded_there x y h = second_so (is_eq (session_cmp x.0 y.0)) _ h

-- on one session
pub shades_there : (s : Session) (f g : Fact) → is_shaded_by f g ≡ true → is_shaded_there_by (s, f) (s, g) ≡ true
shades_there s f g h = both (is_eq (session_cmp s s)) (is_shaded_by f g) (eq_itself session_ranked s) h

-- nothing overshadows itself
pub there_irr : (x : SessionFact) → is_shaded_there_by x x ≡ false
there_irr x = is_false _ (λ t. clash (is_shaded_by x.1 x.1) (shaded_there x x t) (shaded_irr x.1))

-- overshadowing goes through
pub there_trans : (x y z : SessionFact) → is_shaded_there_by x y ≡ true → is_shaded_there_by y z ≡ true → is_shaded_there_by x z ≡ true
there_trans x y z h k =
    both (is_eq (session_cmp x.0 z.0)) (is_shaded_by x.1 z.1)
    (subst (λ (s : Session). is_eq (session_cmp s z.0) ≡ true) (sym (same_session x y h)) (first_so _ _ k))
    (shaded_trans x.1 y.1 z.1 (shaded_there x y h) (shaded_there y z k))

-- so it is a strict order
pub there_strict : IsStrict is_shaded_there_by
there_strict = record { irr = there_irr; trans = there_trans }

-- a kept fact is a fact, and none overshadows it
pub kept_facts-In : (x : SessionFact) (facts : List SessionFact) → In x (kept_facts facts) → In x facts × ((y : SessionFact) → In y facts → is_shaded_there_by x y ≡ false)
kept_facts-In = maximal-In is_shaded_there_by there_irr there_trans

-- and such a fact is kept
pub In-kept_facts : (x : SessionFact) (facts : List SessionFact) → In x facts → ((y : SessionFact) → In y facts → is_shaded_there_by x y ≡ false) → In x (kept_facts facts)
In-kept_facts = In-maximal is_shaded_there_by there_irr there_trans

-- a union with the kept facts keeps what the union keeps
pub kept_facts-append : (xs ys : List SessionFact) → Same (kept_facts (kept_facts xs ++ ys)) (kept_facts (xs ++ ys))
kept_facts-append = maximal-append is_shaded_there_by there_irr there_trans

-- what is kept depends on the members alone
pub kept_facts-Same : (xs ys : List SessionFact) → Same xs ys → Same (kept_facts xs) (kept_facts ys)
kept_facts-Same = maximal-Same is_shaded_there_by there_irr there_trans

-- the ascending list depends on the members alone
pub sorted-Same : (xs ys : List SessionFact) → Same xs ys → ascending session_fact_cmp xs ≡ ascending session_fact_cmp ys
sorted-Same = ascending-Same session_fact_cmp session_fact_ranked

-- and has the same members
pub sorted-In : (xs : List SessionFact) → Same (ascending session_fact_cmp xs) xs
sorted-In = ascending-In session_fact_cmp session_fact_ranked

-- ---- the facts of one session

-- a fact of the session is on it
its_fact : (b : Bool) (f g : Fact) → cond b (Some f) None ≡ Some g → (b ≡ true) × (f ≡ g)
its_fact true f g h = (refl, cc)
its_fact false f g h = absurd (cc)

-- what is on the session is a fact with it
pub on_session-is : (s : Session) (x : SessionFact) (f : Fact) → on_session s x ≡ Some f → (x.0 ≡ s) × (x.1 ≡ f)
on_session-is s x f h = let k = its_fact (is_eq (session_cmp s x.0)) x.1 f h in (sym (eq_is session_ranked s x.0 k.0), k.1)

-- a fact on the session is one of its facts
pub In-facts_on : (facts : List SessionFact) (s : Session) (f : Fact) → In (s, f) facts → In f (facts_on facts s)
In-facts_on facts s f i = In-filter_map (on_session s) (s, f) f facts i (ap (λ b. cond b (Some f) None) (eq_itself session_ranked s))

-- and the other way round
pub facts_on-In : (facts : List SessionFact) (s : Session) (f : Fact) → In f (facts_on facts s) → In (s, f) facts
facts_on-In facts s f i =
    let r = filter_map-In (on_session s) f facts i in
    let k = its_fact (is_eq (session_cmp s r.0.0)) r.0.1 f r.2 in
    let session : r.0.0 ≡ s = sym (eq_is session_ranked s r.0.0 k.0) in
    subst (λ (x : SessionFact). In x facts) (λ j. (session j, k.1 j)) r.1

-- they depend on the members alone
pub facts_on-Same : (xs ys : List SessionFact) (s : Session) → Same xs ys → Same (facts_on xs s) (facts_on ys s)
facts_on-Same xs ys s = filter_map-Same (on_session s) xs ys

-- facts of a session are under it
pub In-under : (s : Session) (f : Fact) (facts : List Fact) → In f facts → In (s, f) (under s facts)
In-under s f facts i = In-map (λ (f : Fact). (s, f)) f facts i

-- and nothing else is
pub under-In : (s : Session) (x : SessionFact) (facts : List Fact) → In x (under s facts) → (x.0 ≡ s) × In x.1 facts
under-In s x facts i =
    let r = map-In (λ (f : Fact). (s, f)) x facts i in
    (ap (λ (y : SessionFact). y.0) r.2, subst (λ (f : Fact). In f facts) (sym (ap (λ (y : SessionFact). y.1) r.2)) r.1)

-- what is kept of each session is kept of its facts
pub facts_on-kept : (facts : List SessionFact) (s : Session) → Same (facts_on (kept_facts facts) s) (kept_set (facts_on facts s))
facts_on-kept facts s f = (there, back)
  where
    there : In f (facts_on (kept_facts facts) s) → In f (kept_set (facts_on facts s))
    there i =
        let k = kept_facts-In (s, f) facts (facts_on-In (kept_facts facts) s f i) in
        In-kept f (facts_on facts s) (In-facts_on facts s f k.0) (λ g j. is_false (is_shaded_by f g) (λ t.
        clash (is_shaded_there_by (s, f) (s, g)) (shades_there s f g t) (k.1 (s, g) (facts_on-In facts s g j))))

    back : In f (kept_set (facts_on facts s)) → In f (facts_on (kept_facts facts) s)
    back i =
        let k = kept-In f (facts_on facts s) i in
        In-facts_on (kept_facts facts) s f (In-kept_facts (s, f) facts (facts_on-In facts s f k.0) (λ y j. is_false (is_shaded_there_by (s, f) y) (λ t.
        clash (is_shaded_by f y.1) (shaded_there (s, f) y t) (k.1 y.1 (In-facts_on facts s y.1 (subst (λ (r : Session). In (r, y.1) facts) (sym (same_session (s, f) y t)) j))))))

-- ---- one session's facts replaced

-- the facts of other sessions, and the new ones
abbrev others : Holding → Session → List SessionFact
others h s = filter (λ x. not (is_eq (session_cmp s x.0))) h.facts

module _ (h : Holding) (s : Session) (facts : List Fact) where
  -- what is there is one of the new facts
  new_there : (f : Fact) → In (s, f) (others h s ++ under s facts) → In f facts
  new_there f i = elim (In-cases (s, f) (others h s) (under s facts) i) [
    | inl j ↦ clash (is_eq (session_cmp s s)) (eq_itself session_ranked s) (not_true _ (filter-In (λ x. not (is_eq (session_cmp s x.0))) (s, f) h.facts j).1)
    | inr j ↦ (under-In s (s, f) facts j).1
  ]

  -- what is on another session was there
  old_there : (r : Session) → (r ≡ s → ⊥) → (f : Fact) → In (r, f) (others h s ++ under s facts) → In (r, f) h.facts
  old_there r n f i = elim (In-cases (r, f) (others h s) (under s facts) i) [
    | inl j ↦ (filter-In (λ x. not (is_eq (session_cmp s x.0))) (r, f) h.facts j).0
    | inr j ↦ absurd (n (under-In s (r, f) facts j).0)
  ]

  -- and stays
  old_stays : (r : Session) → (r ≡ s → ⊥) → (f : Fact) → In (r, f) h.facts → In (r, f) (others h s ++ under s facts)
  old_stays r n f i = In-left (r, f) (others h s) (under s facts)
      (In-filter (λ x. not (is_eq (session_cmp s x.0))) (r, f) h.facts i (ap not (is_false (is_eq (session_cmp s r)) (λ t. n (sym (eq_is session_ranked s r t))))))

-- the session has the new facts, every other what it had
pub replaces_one : (h : Holding) (s : Session) (facts : List Fact) (clock : ℕ) → ReplacesOne h s facts clock
replaces_one h s facts clock = record { there = there; elsewhere = elsewhere_ }
  where
    there : Same (facts_on (with_facts_of h s facts clock).facts s) facts
    there f = (
      λ i. new_there h s facts f ((sorted-In (others h s ++ under s facts) (s, f)).0 (facts_on-In (with_facts_of h s facts clock).facts s f i)),
      λ i. In-facts_on (with_facts_of h s facts clock).facts s f ((sorted-In (others h s ++ under s facts) (s, f)).1 (In-right (s, f) (others h s) (under s facts) (In-under s f facts i))),
    )

    elsewhere_ : (r : Session) → (r ≡ s → ⊥) → Same (facts_on (with_facts_of h s facts clock).facts r) (facts_on h.facts r)
    elsewhere_ r n f = (
      λ i. In-facts_on h.facts r f (old_there h s facts r n f ((sorted-In (others h s ++ under s facts) (r, f)).0 (facts_on-In (with_facts_of h s facts clock).facts r f i))),
      λ i. In-facts_on (with_facts_of h s facts clock).facts r f ((sorted-In (others h s ++ under s facts) (r, f)).1 (old_stays h s facts r n f (facts_on-In h.facts r f i))),
    )
