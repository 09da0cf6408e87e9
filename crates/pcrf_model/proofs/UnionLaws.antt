-- Unions and what is kept of them.
use Rattle.std.proofs.Common.{◌≡◌, ℕ, max, ◌≤◌, List, [], ◌∷◌, ◌++◌, ◌↔◌, inl, inr, refl, sym, ap, ◌∙◌, subst, arith, append_assoc, append-nil}
use Rattle.pcrf_values.specs.Ascending.{ascending}
use Rattle.pcrf_values.specs.Sets.{In, Same}
use Rattle.pcrf_model.specs.Sessions.{Session}
use Rattle.pcrf_model.specs.Holdings.{SessionFact, session_fact_cmp, is_shaded_there_by, kept_facts, under, Holding, nothing_held, union, kept_of}
use Rattle.pcrf_model.specs.Operations.{Operation, with_operation, holding_of}
use Rattle.pcrf_model.specs.Views.{View, view}
use Rattle.pcrf_model.specs.Tables.{Tables}
use Rattle.pcrf_model.specs.Rules.{rules}
use Rattle.pcrf_values.proofs.SetLaws.{In-left, In-right, In-cases, Same-itself, Same-back, Same-through, Same-append, Same-turn, Same-twice, maximal-maximal}
use Rattle.pcrf_model.proofs.HoldingLaws.{there_irr, there_trans, kept_facts-append, kept_facts-Same, sorted-Same, sorted-In}
use Rattle.pcrf_model.proofs.ViewLaws.{view-Same, view-kept}

-- the holding of facts in any order
abbrev sorted_holding : List SessionFact → ℕ → Holding
sorted_holding fs n = record { facts = ascending session_fact_cmp fs; clock = n }

-- which depends on the members alone
same_holding : (fs gs : List SessionFact) (m n : ℕ) → Same fs gs → m ≡ n → sorted_holding fs m ≡ sorted_holding gs n
same_holding fs gs m n s e = let q = sorted-Same fs gs s in λ i. record { facts = q i; clock = e i }

-- unions in the other order
pub union_comm : (h k : Holding) → union h k ≡ union k h
union_comm h k = same_holding (h.facts ++ k.facts) (k.facts ++ h.facts) _ _ (Same-turn h.facts k.facts) (omega arith)

-- the facts of three
assoc_Same : (a b c : List SessionFact) → Same (ascending session_fact_cmp (a ++ b) ++ c) (a ++ ascending session_fact_cmp (b ++ c))
assoc_Same a b c =
    Same-through (ascending session_fact_cmp (a ++ b) ++ c) ((a ++ b) ++ c) (a ++ ascending session_fact_cmp (b ++ c))
    (Same-append (ascending session_fact_cmp (a ++ b)) c (a ++ b) c (sorted-In (a ++ b)) (Same-itself c))
    (subst (λ (z : List SessionFact). Same z (a ++ ascending session_fact_cmp (b ++ c))) (sym (append_assoc a b c))
    (Same-append a (b ++ c) a (ascending session_fact_cmp (b ++ c)) (Same-itself a) (Same-back (ascending session_fact_cmp (b ++ c)) (b ++ c) (sorted-In (b ++ c)))))

-- unions of three
pub union_assoc : (h k l : Holding) → union (union h k) l ≡ union h (union k l)
union_assoc h k l = same_holding (ascending session_fact_cmp (h.facts ++ k.facts) ++ l.facts) (h.facts ++ ascending session_fact_cmp (k.facts ++ l.facts)) _ _ (assoc_Same h.facts k.facts l.facts) (omega arith)

-- the kept facts of a union with what is kept
kept_Same : (a b : List SessionFact) → Same (kept_facts (ascending session_fact_cmp (ascending session_fact_cmp (kept_facts a) ++ b))) (kept_facts (ascending session_fact_cmp (a ++ b)))
kept_Same a b =
    let inner : Same (ascending session_fact_cmp (kept_facts a) ++ b) (kept_facts a ++ b) = Same-append (ascending session_fact_cmp (kept_facts a)) b (kept_facts a) b (sorted-In (kept_facts a)) (Same-itself b) in
    let outer : Same (ascending session_fact_cmp (ascending session_fact_cmp (kept_facts a) ++ b)) (kept_facts a ++ b) = Same-through (ascending session_fact_cmp (ascending session_fact_cmp (kept_facts a) ++ b)) (ascending session_fact_cmp (kept_facts a) ++ b) (kept_facts a ++ b) (sorted-In (ascending session_fact_cmp (kept_facts a) ++ b)) inner in
    Same-through (kept_facts (ascending session_fact_cmp (ascending session_fact_cmp (kept_facts a) ++ b))) (kept_facts (kept_facts a ++ b)) (kept_facts (ascending session_fact_cmp (a ++ b)))
    (kept_facts-Same (ascending session_fact_cmp (ascending session_fact_cmp (kept_facts a) ++ b)) (kept_facts a ++ b) outer)
    (Same-through (kept_facts (kept_facts a ++ b)) (kept_facts (a ++ b)) (kept_facts (ascending session_fact_cmp (a ++ b))) (kept_facts-append a b)
    (kept_facts-Same (a ++ b) (ascending session_fact_cmp (a ++ b)) (Same-back (ascending session_fact_cmp (a ++ b)) (a ++ b) (sorted-In (a ++ b)))))

-- what is kept of a union with what is kept
pub kept_of-union : (h k : Holding) → kept_of (union (kept_of h) k) ≡ kept_of (union h k)
kept_of-union h k = same_holding (kept_facts (ascending session_fact_cmp (ascending session_fact_cmp (kept_facts h.facts) ++ k.facts))) (kept_facts (ascending session_fact_cmp (h.facts ++ k.facts))) _ _ (kept_Same h.facts k.facts) refl

-- what is kept of what is kept
pub kept_of_twice : (h : Holding) → kept_of (kept_of h) ≡ kept_of h
kept_of_twice h = same_holding (kept_facts (ascending session_fact_cmp (kept_facts h.facts))) (kept_facts h.facts) _ _
    (Same-through (kept_facts (ascending session_fact_cmp (kept_facts h.facts))) (kept_facts (kept_facts h.facts)) (kept_facts h.facts)
    (kept_facts-Same (ascending session_fact_cmp (kept_facts h.facts)) (kept_facts h.facts) (sorted-In (kept_facts h.facts)))
    (maximal-maximal is_shaded_there_by there_irr there_trans h.facts))
    refl

-- what is kept of a union with itself
pub union_twice : (h : Holding) → kept_of (union h h) ≡ kept_of h
union_twice h = same_holding (kept_facts (ascending session_fact_cmp (h.facts ++ h.facts))) (kept_facts h.facts) _ _
    (kept_facts-Same (ascending session_fact_cmp (h.facts ++ h.facts)) h.facts (Same-through (ascending session_fact_cmp (h.facts ++ h.facts)) (h.facts ++ h.facts) h.facts (sorted-In (h.facts ++ h.facts)) (Same-twice h.facts)))
    (omega arith)

-- what is kept of a union with nothing
pub union_nothing : (h : Holding) → kept_of (union h nothing_held) ≡ kept_of h
union_nothing h = same_holding (kept_facts (ascending session_fact_cmp (h.facts ++ []))) (kept_facts h.facts) _ _
    (kept_facts-Same (ascending session_fact_cmp (h.facts ++ [])) h.facts (subst (λ (l : List SessionFact). Same (ascending session_fact_cmp l) h.facts) (sym (append-nil h.facts)) (sorted-In h.facts)))
    (omega arith)

-- the view of what is kept
pub view-kept_of : (h : Holding) → view (kept_of h).facts ≡ view h.facts
view-kept_of h = view-Same (ascending session_fact_cmp (kept_facts h.facts)) (kept_facts h.facts) (sorted-In (kept_facts h.facts)) ∙ view-kept h.facts

-- the rules of what is kept
pub rules-kept_of : (t : Tables) (h : Holding) (s : Session) → rules t (view (kept_of h).facts) s ≡ rules t (view h.facts) s
rules-kept_of t h s = ap (λ (v : View). rules t v s) (view-kept_of h)

-- ---- the holding of a set of operations
-- the facts of an operation, with its session
abbrev pub its_facts : Operation → List SessionFact
its_facts o = under o.session o.facts

-- the facts held are those of the operations
pub In-holding : (x : SessionFact) (os : List Operation) → In x (holding_of os).facts ↔ (o : Operation) × In o os × In x (under o.session o.facts)
In-holding x [] = (λ h. absurd h, λ r. absurd r.1)
In-holding x (o ∷ os) =
    let ih = In-holding x os in
    let s = sorted-In ((holding_of os).facts ++ its_facts o) x in (
      λ h. elim (In-cases x (holding_of os).facts (its_facts o) (s.0 h)) [ inl a ↦ let r = ih.0 a in (r.0, inr r.1, r.2) | inr a ↦ (o, inl refl, a) ],
      λ r. s.1 (back (λ q j i. (In-holding x os).1 (q, j, i)) r),
    )
  where
    back : ((q : Operation) → In q os → In x (its_facts q) → In x (holding_of os).facts) → (q : Operation) × In q (o ∷ os) × In x (its_facts q) → In x ((holding_of os).facts ++ its_facts o)
    back before (q, inl e, i) = In-right x (holding_of os).facts (its_facts o) (subst (λ (z : Operation). In x (its_facts z)) e i)
    back before (q, inr j, i) = In-left x (holding_of os).facts (its_facts o) (before q j i)

-- no counter is above the clock
pub clock_above : (o : Operation) (os : List Operation) → In o os → o.counter ≤ (holding_of os).clock
clock_above o [] h = absurd h
clock_above o (p ∷ os) (inl e) = let k : o.counter ≡ p.counter = ap (λ (z : Operation). z.counter) e in omega arith
clock_above o (p ∷ os) (inr h) = let k = clock_above o os h in omega (arith, k)

-- the clock is no higher than the counters
pub clock_below : (n : ℕ) (os : List Operation) → ((o : Operation) → In o os → o.counter ≤ n) → (holding_of os).clock ≤ n
clock_below n [] h = omega arith
clock_below n (p ∷ os) h = let k = clock_below n os (λ o i. h o (inr i)) in let m = h p (inl refl) in omega (arith, k, m)

-- from one list to the other
part : (xs ys : List Operation) → Same xs ys → (f : SessionFact) → In f (holding_of xs).facts → In f (holding_of ys).facts
part xs ys s f i = let r = (In-holding f xs).0 i in (In-holding f ys).1 (r.0, (s r.0).0 r.1, r.2)

-- sorted already: a holding's facts are the ascending list of some list
holding_sorted : (os : List Operation) → ascending session_fact_cmp (holding_of os).facts ≡ (holding_of os).facts
holding_sorted [] = refl
holding_sorted (o ∷ os) = sorted-Same (ascending session_fact_cmp ((holding_of os).facts ++ its_facts o)) ((holding_of os).facts ++ its_facts o) (sorted-In ((holding_of os).facts ++ its_facts o))

-- the holding depends on the members alone
pub holding_of-Same : (xs ys : List Operation) → Same xs ys → holding_of xs ≡ holding_of ys
holding_of-Same xs ys s =
    let low : (holding_of xs).clock ≤ (holding_of ys).clock = clock_below _ xs (λ o i. clock_above o ys ((s o).0 i)) in
    let high : (holding_of ys).clock ≤ (holding_of xs).clock = clock_below _ ys (λ o i. clock_above o xs ((s o).1 i)) in
    let c : (holding_of xs).clock ≡ (holding_of ys).clock = omega (arith, low, high) in
    let q = sorted-Same (holding_of xs).facts (holding_of ys).facts (λ f. (part xs ys s f, part ys xs (Same-back xs ys s) f)) in
    let e : (holding_of xs).facts ≡ (holding_of ys).facts = sym (holding_sorted xs) ∙ q ∙ holding_sorted ys in
    λ i. record { facts = e i; clock = c i }

-- the holding of two lists is the union of theirs
pub holding_of-append : (xs ys : List Operation) → holding_of (xs ++ ys) ≡ union (holding_of xs) (holding_of ys)
holding_of-append [] ys = same_holding_of (sym (holding_sorted ys)) (omega arith)
  where
    same_holding_of : (holding_of ys).facts ≡ ascending session_fact_cmp (holding_of ys).facts → (holding_of ys).clock ≡ max 0 (holding_of ys).clock → holding_of ys ≡ union nothing_held (holding_of ys)
    same_holding_of q e = λ i. record { facts = q i; clock = e i }
holding_of-append (o ∷ xs) ys =
    ap (λ (h : Holding). with_operation h o) (holding_of-append xs ys)
    ∙ union_assoc (holding_of xs) (holding_of ys) (record { facts = under o.session o.facts; clock = o.counter })
    ∙ ap (λ (h : Holding). union (holding_of xs) h) (union_comm (holding_of ys) (record { facts = under o.session o.facts; clock = o.counter }))
    ∙ sym (union_assoc (holding_of xs) (record { facts = under o.session o.facts; clock = o.counter }) (holding_of ys))

-- ---- what is read of kept_facts facts with more
-- the view of what is kept, in order
pub view_sorted : (xs : List SessionFact) → view (ascending session_fact_cmp (kept_facts xs)) ≡ view xs
view_sorted xs = view-Same (ascending session_fact_cmp (kept_facts xs)) (kept_facts xs) (sorted-In (kept_facts xs)) ∙ view-kept xs

-- the view of what is kept, with more
pub view_with : (xs ys : List SessionFact) → view (ascending session_fact_cmp (kept_facts xs) ++ ys) ≡ view (xs ++ ys)
view_with xs ys =
    view-Same (ascending session_fact_cmp (kept_facts xs) ++ ys) (kept_facts xs ++ ys) (Same-append (ascending session_fact_cmp (kept_facts xs)) ys (kept_facts xs) ys (sorted-In (kept_facts xs)) (Same-itself ys))
    ∙ sym (view-kept (kept_facts xs ++ ys))
    ∙ view-Same (kept_facts (kept_facts xs ++ ys)) (kept_facts (xs ++ ys)) (kept_facts-append xs ys)
    ∙ view-kept (xs ++ ys)
