-- What is in flight, and what stays true of it when one more is sent, and when some is taken or lost.
use Rattle.std.proofs.Common.{arith, ◌≡◌, ℕ, zero, suc, ◌+◌, ◌≤◌, ◌<◌, true, false, Bool, cond, not, ◌&&◌, ◌||◌, ◌==◌, List, [], ◌∷◌, ◌++◌, ◌⊎◌, inl, inr, refl, sym, ap, ◌∙◌, subst}
use Rattle.std.proofs.lemmas.Bool.{eqb-true, eqb-false, and_parts, true≢false, cond_both, cases_eq, and_from, cond-true, eq-eqb, or_cases, ltb-true, not-true}
use Rattle.ended_questions.specs.Forgetting.{Message, Whole, Facts, End, Ask, Past, Forget, Site, World, Event, Operates, Ends, Writes, Tells, Asks, Marks, Answers, Releases, Forgets, Drops, Takes, Cuts, Restarts, nobody, only, ends_of_these, those_ended, with_end_of, asking, fresh_site, holding, marked, without_question, forgetful, has_all_marks, took_question, may_operate, put, with_site, sent, with_link, with_more, with_mark, unlinked, others, first, taken, first_taken, happens, after_all, start, each_below}
use Rattle.ended_questions.specs.Laws.{BringsNothingLive, BringNothingLive}

-- each of these is so
abbrev pub Each : (Message → Type 0) → List Message → Type 0
Each P [] = Unit {0}
Each P (m ∷ ms) = P m × Each P ms

-- a mark, or a question, of number b or a later one
abbrev pub IsMark : ℕ → Message → Type 0
IsMark b (Ask q about) = b ≤ q
IsMark b (Past q) = b ≤ q
IsMark b (Whole k a) = ⊥
IsMark b (Facts y f) = ⊥
IsMark b (End y) = ⊥
IsMark b (Forget q about) = ⊥

-- behind such a mark nothing live comes
abbrev pub Quiet : ℕ → ℕ → List Message → Type 0
Quiet x b [] = Unit {0}
Quiet x b (m ∷ ms) = (IsMark b m → BringNothingLive x ms) × Quiet x b ms

-- no mark, nor question, of number q
abbrev pub IsNoMark : ℕ → Message → Type 0
IsNoMark q (Ask p about) = p ≡ q → ⊥
IsNoMark q (Past p) = p ≡ q → ⊥
IsNoMark q (Whole k a) = Unit {0}
IsNoMark q (Facts y f) = Unit {0}
IsNoMark q (End y) = Unit {0}
IsNoMark q (Forget p about) = Unit {0}

-- ---- one more

pub each_last : (P : Message → Type 0) (ms : List Message) (m : Message) → Each P ms → P m → Each P (ms ++ m ∷ [])
each_last P [] m h p = (p, tt)
each_last P (y ∷ ms) m h p = (h.0, each_last P ms m h.1 p)

pub nothing_live_last : (x : ℕ) (ms : List Message) (m : Message) → BringNothingLive x ms → BringsNothingLive x m → BringNothingLive x (ms ++ m ∷ [])
nothing_live_last x [] m h p = (p, tt)
nothing_live_last x (y ∷ ms) m h p = (h.0, nothing_live_last x ms m h.1 p)

pub quiet_last : (x b : ℕ) (ms : List Message) (m : Message) → Quiet x b ms → BringsNothingLive x m → Quiet x b (ms ++ m ∷ [])
quiet_last x b [] m h p = (λ _. tt, tt)
quiet_last x b (y ∷ ms) m h p = (λ is. nothing_live_last x ms m (h.0 is) p, quiet_last x b ms m h.1 p)

-- ---- fewer

pub each_take : (P : Message → Type 0) (k : ℕ) (ms : List Message) → Each P ms → Each P (first k ms)
each_take P zero [] h = tt
each_take P zero (m ∷ ms) h = tt
each_take P (suc k) [] h = tt
each_take P (suc k) (m ∷ ms) h = (h.0, each_take P k ms h.1)

pub nothing_live_take : (x k : ℕ) (ms : List Message) → BringNothingLive x ms → BringNothingLive x (first k ms)
nothing_live_take x zero [] h = tt
nothing_live_take x zero (m ∷ ms) h = tt
nothing_live_take x (suc k) [] h = tt
nothing_live_take x (suc k) (m ∷ ms) h = (h.0, nothing_live_take x k ms h.1)

pub quiet_take : (x b k : ℕ) (ms : List Message) → Quiet x b ms → Quiet x b (first k ms)
quiet_take x b zero [] h = tt
quiet_take x b zero (m ∷ ms) h = tt
quiet_take x b (suc k) [] h = tt
quiet_take x b (suc k) (m ∷ ms) h = (λ is. nothing_live_take x k ms (h.0 is), quiet_take x b k ms h.1)

-- What is left is so if all was so.
pub record Shrinks (ms left : List Message) : Type 1 where
  pub each : (P : Message → Type 0) → Each P ms → Each P left
  pub dead : (x : ℕ) → BringNothingLive x ms → BringNothingLive x left
  pub quiet : (x b : ℕ) → Quiet x b ms → Quiet x b left

pub shrinks_not : (ms : List Message) → Shrinks ms ms
shrinks_not ms = record { each = λ P h. h; dead = λ x h. h; quiet = λ x b h. h }

pub shrinks_to_first : (k : ℕ) (ms : List Message) → Shrinks ms (first k ms)
shrinks_to_first k ms = record { each = λ P h. each_take P k ms h; dead = λ x h. nothing_live_take x k ms h; quiet = λ x b h. quiet_take x b k ms h }

pub shrinks_by_first : (m : Message) (ms : List Message) → Shrinks (m ∷ ms) ms
shrinks_by_first m ms = record { each = λ P h. h.1; dead = λ x h. h.1; quiet = λ x b h. h.1 }

pub shrinks_to_none : (ms : List Message) → Shrinks ms []
shrinks_to_none ms = record { each = λ P h. tt; dead = λ x h. tt; quiet = λ x b h. tt }

-- ---- each, by another reason

pub each_weaker : (P Q : Message → Type 0) → ((m : Message) → P m → Q m) → (ms : List Message) → Each P ms → Each Q ms
each_weaker P Q f [] h = tt
each_weaker P Q f (m ∷ ms) h = (f m h.0, each_weaker P Q f ms h.1)

-- where no mark is there, what is there is quiet
pub quiet_without : (x b : ℕ) (ms : List Message) → Each (λ m. IsMark b m → ⊥) ms → Quiet x b ms
quiet_without x b [] h = tt
quiet_without x b (m ∷ ms) h = (λ is. absurd (h.0 is), quiet_without x b ms h.1)

pub both_each : (P Q : Message → Type 0) (ms : List Message) → Each P ms → Each Q ms → Each (λ m. P m × Q m) ms
both_each P Q [] h k = tt
both_each P Q (m ∷ ms) h k = ((h.0, k.0), both_each P Q ms h.1 k.1)

-- ---- places

-- at each place, where there is a value in another's stead
pub put_at : {A : Type 0} (P : ℕ → A → Type 0) (f : ℕ → A) (i : ℕ) (x : A) (k : ℕ) → P i x → ((k ≡ i → ⊥) → P k (f k)) → P k (put f i x k)
put_at P f i x k here there = cond_both (k == i) x (f k) (λ z. P k z) (λ e. subst (λ n. P n x) (sym (eqb-true k i e)) here) (λ e. there (eqb-false k i e))

-- each below n is so
pub below : (n : ℕ) (f : ℕ → Bool) (k : ℕ) → each_below n f ≡ true → k < n → f k ≡ true
below zero f k h l = absurd (omega (arith, l))
below (suc n) f k h l = elim (cases_eq k n) [
  | inl e ↦ subst (λ (z : ℕ). f z ≡ true) (sym e) (and_parts (f n) (each_below n f) h).0
  | inr ne ↦ below n f k (and_parts (f n) (each_below n f) h).1 (omega (arith, l, ne))
]

pub all_below : (n : ℕ) (f : ℕ → Bool) → ((k : ℕ) → k < n → f k ≡ true) → each_below n f ≡ true
all_below zero f h = refl
all_below (suc n) f h = and_from (f n) (each_below n f) (h n (omega arith)) (all_below n f (λ k l. h k (omega (arith, l))))

-- a mark that came, or was there
pub put_true : (f : ℕ → Bool) (j a : ℕ) → put f j true a ≡ true → (a ≡ j) ⊎ (f a ≡ true)
put_true f j a = cond_both (a == j) true (f a) (λ z. z ≡ true → (a ≡ j) ⊎ (f a ≡ true)) (λ e h. inl (eqb-true a j e)) (λ e h. inr h)

-- nobody's mark
pub nobody_true : {P : Type 0} (a : ℕ) → nobody a ≡ true → P
nobody_true a h = absurd (true≢false (sym h))

-- a site is as it was but for a mark, has a later question, or is as it was
pub marked_is : (P : Site → Type 0) (i j q : ℕ) (s : Site)
    → (q ≡ s.question → P (record { kept = s.kept; all = s.all; question = q; about = s.about; past = put s.past j true }))
    → ((i ≡ 0 → ⊥) → s.question < q → P (record { kept = s.kept; all = s.all; question = q; about = s.about; past = put nobody j true }))
    → P s → P (marked i j q s)
marked_is P i j q s same later not_so = cond_both (q == s.question) _ _ P (λ e. same (eqb-true q s.question e)) (λ _. cond_both _ _ s P (λ e.
    let h = and_parts (not (i == 0)) (Rattle.std.proofs.Common.ltb s.question q) e in later (eqb-false i 0 (not-true (i == 0) h.0)) (ltb-true s.question q h.1)) (λ _. not_so))

-- what is in flight where it was set
pub link_there : (w : World) (j i : ℕ) (ms : List Message) → (with_link w j i ms).link j i ≡ ms
link_there w j i ms = cond-true (j == j && i == i) ms (w.link j i) (and_from (j == j) (i == i) (eq-eqb j j refl) (eq-eqb i i refl))

-- what is in flight shrinks, where it is set to less
pub set_shrinks : (w : World) (j i : ℕ) (ms : List Message) → Shrinks (w.link j i) ms → (a c : ℕ) → Shrinks (w.link a c) ((with_link w j i ms).link a c)
set_shrinks w j i ms h a c = cond_both_1 (a == j && c == i) ms (w.link a c) (λ z. Shrinks (w.link a c) z)
    (λ e. let p = and_parts (a == j) (c == i) e in subst (λ (x : ℕ). Shrinks (w.link x c) ms) (sym (eqb-true a j p.0)) (subst (λ (y : ℕ). Shrinks (w.link j y) ms) (sym (eqb-true c i p.1)) h))
    (λ e. shrinks_not (w.link a c))
  where
    cond_both_1 : (t : Bool) (x y : List Message) → (P : List Message → Type 1) → (t ≡ true → P x) → (t ≡ false → P y) → P (cond t x y)
    cond_both_1 true x y P f g = f refl
    cond_both_1 false x y P f g = g refl

-- each of these is as before, or one more, which that site sent
pub sent_is : (P : List Message → Type 0) (w : World) (i : ℕ) (to : ℕ → Bool) (m : Message) (a c : ℕ) → P (w.link a c) → (a ≡ i → to c ≡ true → P (w.link a c ++ m ∷ [])) → P ((sent w i to m).link a c)
sent_is P w i to m a c same more = cond_both (a == i && to c) (w.link a c ++ m ∷ []) (w.link a c) P (λ e. let p = and_parts (a == i) (to c) e in more (eqb-true a i p.0) p.1) (λ e. same)

-- all marks, but one's own
pub mark_of : (n i : ℕ) (s : Site) (k : ℕ) → Rattle.ended_questions.specs.Forgetting.has_all_marks n i s ≡ true → k < n → (i ≡ k → ⊥) → (0 < s.question) × (s.past k ≡ true)
mark_of n i s k h l ne =
    let p = and_parts _ (each_below n (λ k. k == i || s.past k)) h in
    (ltb-true 0 s.question p.0, elim (or_cases (k == i) (s.past k) (below n (λ k. k == i || s.past k) k p.1 l)) [ inl e ↦ absurd (ne (sym (eqb-true k i e))) | inr e ↦ e ])

-- nothing is in flight to a site that begins again
pub none_there : (w : World) (i j : ℕ) → (unlinked w i).link j i ≡ []
none_there w i j = cond-true (i == i) [] (w.link j i) (eq-eqb i i refl)

-- and to others as before
pub less_there : (w : World) (i a c : ℕ) → Shrinks (w.link a c) ((unlinked w i).link a c)
less_there w i a c = of_test (c == i)
  where
    of_test : (t : Bool) → Shrinks (w.link a c) (cond t [] (w.link a c))
    of_test true = shrinks_to_none (w.link a c)
    of_test false = shrinks_not (w.link a c)

-- three tests that are true
pub three : (x y z : Bool) → (x && y && z) ≡ true → (x ≡ true) × (y ≡ true) × (z ≡ true)
three true true true h = (refl, refl, refl)
three true true false h = absurd (true≢false (sym h))
three true false z h = absurd (true≢false (sym h))
three false y z h = absurd (true≢false (sym h))
