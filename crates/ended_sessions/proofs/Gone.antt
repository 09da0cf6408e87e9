-- What is held without one session.
use Rattle.std.proofs.Common.{◌≡◌, true, not, List, [], ◌∷◌, ◌++◌, inl, inr, refl, sym, ap, ◌∙◌, subst}
use Rattle.std.specs.Ordering.{is_eq}
use Rattle.std.specs.List.{filter}
use Rattle.pcrf_values.specs.Ascending.{ascending}
use Rattle.pcrf_values.specs.Sets.{In, Same}
use Rattle.pcrf_values.specs.Facts.{Fact}
use Rattle.pcrf_values.specs.Held.{kept_set}
use Rattle.pcrf_values.proofs.SetLaws.{In-left, In-right, In-cases, Same-itself, Same-back, Same-through, Same-append}
use Rattle.pcrf_values.proofs.JoinedLaws.{kept-Same}
use Rattle.pcrf_values.proofs.AscendingLaws.{ascending-ascending, same_ascending}
use Rattle.pcrf_values.specs.Held.{is_ended}
use Rattle.pcrf_model.specs.Sessions.{Session, session_cmp}
use Rattle.pcrf_model.specs.Holdings.{SessionFact, session_fact_cmp, kept_facts, under, facts_on, Holding, union, kept_of}
use Rattle.pcrf_model.proofs.HoldingLaws.{session_fact_ranked, sorted-In, In-facts_on, facts_on-In, facts_on-Same, facts_on-kept, replaces_one}
use Rattle.pcrf_model.proofs.NeighbourLaws.{which}
use Rattle.ended_sessions.specs.Forgotten.{has_ended, forgotten, LacksTheEnded}
use Rattle.ended_sessions.specs.Laws.{ForgetsOne, ForgettingIsKept, ForgettingUnderUnions}

-- what has no member is empty
none_in : {A : Type 0} (xs : List A) → ((x : A) → In x xs → ⊥) → xs ≡ []
none_in [] h = refl
none_in (x ∷ xs) h = absurd (h x (inl refl))

-- nothing of the session is left
pub gone : (h : Holding) (s : Session) → facts_on (forgotten h s).facts s ≡ []
gone h s = none_in (facts_on (forgotten h s).facts s) (λ f i. ((replaces_one h s [] h.clock).there f).0 i)

-- and every other has what it had
pub elsewhere : (h : Holding) (s r : Session) → (r ≡ s → ⊥) → Same (facts_on (forgotten h s).facts r) (facts_on h.facts r)
elsewhere h s = (replaces_one h s [] h.clock).elsewhere

pub forgets_one : (h : Holding) (s : Session) → ForgetsOne h s
forgets_one h s = record { gone = gone h s; elsewhere = elsewhere h s; clock = refl }

-- where the session has ended, just one that has ended is lacking
pub lacks_one : (h : Holding) (s : Session) → has_ended h s ≡ true → LacksTheEnded (forgotten h s).facts h.facts
lacks_one h s ended = record {
  each = λ r. elim (which s r) [
    | inl e ↦ inr (ap (facts_on (forgotten h s).facts) e ∙ gone h s, ap (λ q. is_ended (facts_on h.facts q)) e ∙ ended)
    | inr n ↦ inl (elsewhere h s r n)
  ];
}

-- ---- session by session

-- facts that are the same on each session are the same
by_session : (xs ys : List SessionFact) → ((s : Session) → Same (facts_on xs s) (facts_on ys s)) → Same xs ys
by_session xs ys h x = (
  λ i. facts_on-In ys x.0 x.1 ((h x.0 x.1).0 (In-facts_on xs x.0 x.1 i)),
  λ i. facts_on-In xs x.0 x.1 ((h x.0 x.1).1 (In-facts_on ys x.0 x.1 i)),
)

-- so lists in order are
in_order : (xs ys : List SessionFact) → ((s : Session) → Same (facts_on (ascending session_fact_cmp xs) s) (facts_on (ascending session_fact_cmp ys) s)) → ascending session_fact_cmp xs ≡ ascending session_fact_cmp ys
in_order xs ys h = same_ascending session_fact_cmp session_fact_ranked _ _ (ascending-ascending session_fact_cmp session_fact_ranked xs) (ascending-ascending session_fact_cmp session_fact_ranked ys) (by_session _ _ h)

-- what is kept of a session is kept of its facts
pub on_kept : (h : Holding) (s : Session) → Same (facts_on (kept_of h).facts s) (kept_set (facts_on h.facts s))
on_kept h s = Same-through _ (facts_on (kept_facts h.facts) s) _ (facts_on-Same (ascending session_fact_cmp (kept_facts h.facts)) (kept_facts h.facts) s (sorted-In (kept_facts h.facts))) (facts_on-kept h.facts s)

-- what two hold of a session
pub on_union : (h k : Holding) (s : Session) → Same (facts_on (union h k).facts s) (facts_on h.facts s ++ facts_on k.facts s)
on_union h k s = Same-through _ (facts_on (h.facts ++ k.facts) s) _ (facts_on-Same (union h k).facts (h.facts ++ k.facts) s (sorted-In (h.facts ++ k.facts))) (λ f. (
  λ i. elim (In-cases (s, f) h.facts k.facts (facts_on-In (h.facts ++ k.facts) s f i)) [
    | inl j ↦ In-left f (facts_on h.facts s) (facts_on k.facts s) (In-facts_on h.facts s f j)
    | inr j ↦ In-right f (facts_on h.facts s) (facts_on k.facts s) (In-facts_on k.facts s f j)
  ],
  λ i. In-facts_on (h.facts ++ k.facts) s f (elim (In-cases f (facts_on h.facts s) (facts_on k.facts s) i) [
    | inl j ↦ In-left (s, f) h.facts k.facts (facts_on-In h.facts s f j)
    | inr j ↦ In-right (s, f) h.facts k.facts (facts_on-In k.facts s f j)
  ]),
))

-- what is kept of the same facts of a session is the same
pub kept_on : (h k : Holding) (s : Session) → Same (facts_on h.facts s) (facts_on k.facts s) → Same (facts_on (kept_of h).facts s) (facts_on (kept_of k).facts s)
kept_on h k s same = Same-through _ (kept_set (facts_on h.facts s)) _ (on_kept h s) (Same-through _ (kept_set (facts_on k.facts s)) _ (kept-Same (facts_on h.facts s) (facts_on k.facts s) same) (Same-back _ _ (on_kept k s)))

-- and so is a union with something
pub union_on : (h k l : Holding) (s : Session) → Same (facts_on h.facts s) (facts_on k.facts s) → Same (facts_on (union h l).facts s) (facts_on (union k l).facts s)
union_on h k l s same = Same-through _ _ _ (on_union h l s) (Same-through _ _ _ (Same-append (facts_on h.facts s) (facts_on l.facts s) (facts_on k.facts s) (facts_on l.facts s) same (Same-itself (facts_on l.facts s))) (Same-back _ _ (on_union k l s)))

pub under_unions : ForgettingUnderUnions
under_unions h k s r n = kept_on (union (forgotten h s) k) (union h k) r (union_on (forgotten h s) h k r (elsewhere h s r n))

-- ---- to keep and to forget

-- of no fact nothing is kept
kept_none : (facts : List Fact) → facts ≡ [] → kept_set facts ≡ []
kept_none facts e = ap kept_set e

pub forgetting_keeps : ForgettingIsKept
forgetting_keeps h s = λ i. record { facts = same i; clock = h.clock }
  where
    empty : (xs ys : List Fact) → xs ≡ [] → ys ≡ [] → Same xs ys
    empty xs ys e d = subst (λ (zs : List Fact). Same xs zs) (e ∙ sym d) (Same-itself xs)

    each : (r : Session) → Same (facts_on (kept_of (forgotten h s)).facts r) (facts_on (forgotten (kept_of h) s).facts r)
    each r = elim (which s r) [
      | inl e ↦
          subst (λ (q : Session). Same (facts_on (kept_of (forgotten h s)).facts q) (facts_on (forgotten (kept_of h) s).facts q)) (sym e)
          (empty (facts_on (kept_of (forgotten h s)).facts s) (facts_on (forgotten (kept_of h) s).facts s)
          (none_in _ (λ f i. subst (λ (fs : List Fact). In f fs) (kept_none _ (gone h s)) ((on_kept (forgotten h s) s f).0 i)))
          (gone (kept_of h) s))
      | inr n ↦ Same-through _ _ _ (kept_on (forgotten h s) h r (elsewhere h s r n)) (Same-back _ _ (elsewhere (kept_of h) s r n))
    ]

    same : (kept_of (forgotten h s)).facts ≡ (forgotten (kept_of h) s).facts
    same = in_order (kept_facts (forgotten h s).facts) (filter (λ x. not (is_eq (session_cmp s x.0))) (kept_of h).facts ++ under s []) each
