-- Once the session is buried: what is so from then on, event by event.
use Rattle.std.proofs.Common.{arith, ◌≡◌, ℕ, ◌+◌, ◌≤◌, ◌<◌, true, false, Bool, not, ◌&&◌, ◌==◌, List, [], ◌∷◌, ◌⊎◌, inl, inr, nat_lt, refl, sym, ap, subst}
use Rattle.std.proofs.lemmas.Bool.{eqb-true, eqb-false, and_parts, true≢false, cond_both, ltb-true, both_ways, not-true, cases_eq}
use Rattle.ended_questions.specs.Held.{Held, Unknown, Live, Ended, joined, is_live, is_ended, forgotten}
use Rattle.ended_questions.specs.Forgetting.{Message, Whole, Facts, End, Ask, Past, Forget, Site, World, Event, Operates, Ends, Writes, Tells, Asks, Marks, Answers, Releases, Forgets, Drops, Takes, Cuts, Restarts, nobody, only, ends_of_these, those_ended, with_end_of, fresh_site, holding, marked, without_question, forgetful, has_all_marks, may_operate, put, with_site, sent, with_link, with_more, unlinked, others, first, taken, first_taken, happens}
use Rattle.ended_questions.specs.Laws.{Agrees, BringsNothingLive, BringNothingLive}
use Rattle.ended_questions.proofs.Queues.{Each, IsMark, Quiet, each_last, nothing_live_last, quiet_last, Shrinks, shrinks_to_first, shrinks_by_first, put_at, put_true, nobody_true, marked_is, link_there, set_shrinks, sent_is, mark_of, none_there, less_there, three}

-- what a message in flight says
abbrev pub FitsBuried : ℕ → ℕ → Message → Type 0
FitsBuried sid b (Whole k a) = Agrees (k sid) (a sid)
FitsBuried sid b (Facts y f) = Unit {0}
FitsBuried sid b (End y) = Unit {0}
FitsBuried sid b (Ask q about) = Unit {0}
FitsBuried sid b (Past q) = Unit {0}
FitsBuried sid b (Forget q about) = about sid ≡ true → b ≤ q

-- It was buried by question b: it was ended; nobody shows it live; nothing live is in flight to who doesn't hold the end, nor behind a mark of that
-- question or a later one.
pub record Buried (sid n : ℕ) (w : World) (b : ℕ) : Type 0 where
  pub some : 0 < b
  pub last : b ≤ w.asked
  pub over : w.ended sid ≡ true
  pub agrees : (i : ℕ) → i < n → Agrees ((w.site i).kept sid) ((w.site i).all sid)
  pub dead : (i : ℕ) → i < n → is_live ((w.site i).kept sid) ≡ false
  pub top : ((w.site 0).question ≡ 0) ⊎ (b ≤ (w.site 0).question)
  pub fits : (j i : ℕ) → j < n → i < n → Each (FitsBuried sid b) (w.link j i)
  pub quiet : (j i : ℕ) → j < n → i < n → Quiet sid b (w.link j i)
  pub calm : (j i : ℕ) → j < n → i < n → (i ≡ j → ⊥) → ((w.site i).kept sid ≡ Ended → ⊥) → BringNothingLive sid (w.link j i)
  pub heard : (j i : ℕ) → j < n → i < n → (i ≡ j → ⊥) → b ≤ (w.site i).question → (w.site i).past j ≡ true → BringNothingLive sid (w.link j i)

-- ---- joins

-- with the end it is the end
pub ended_stays : (x k : Held) → x ≡ Ended → joined x k ≡ Ended
ended_stays x k e = ap (λ (z : Held). joined z k) e

-- what agrees, joined to what agrees, where nothing is live
pub agrees_joined : (x y k a : Held) → Agrees x y → Agrees k a → is_live x ≡ false → ((x ≡ Ended → ⊥) → is_live k ≡ false) → Agrees (joined x k) (joined y a) × (is_live (joined x k) ≡ false)
agrees_joined (Live f) y k a h g d e = absurd (true≢false d)
agrees_joined Ended y k a (inl h) g d e = (inl (ap (λ (z : Held). joined z a) h), refl)
agrees_joined Ended y k a (inr h) g d e = absurd (true≢false (ap is_ended h.0))
agrees_joined Unknown y k a h g d e = of_unknown y h k a g (e (λ z. true≢false (sym (ap is_ended z))))
  where
    of_unknown : (y : Held) → Agrees Unknown y → (k a : Held) → Agrees k a → is_live k ≡ false → Agrees k (joined y a) × (is_live k ≡ false)
    of_unknown y (inl h) k a g d = (subst (λ (z : Held). Agrees k (joined z a)) h g, d)
    of_unknown y (inr h) Unknown a g d = (inr (refl, ap (λ (z : Held). joined z a) h.1), refl)
    of_unknown y (inr h) (Live f) a g d = absurd (true≢false d)
    of_unknown y (inr h) Ended a g d = (inl (sym (ap (λ (z : Held). joined z a) h.1)), refl)

-- forgetting keeps agreement
pub agrees_forgotten : (x y : Held) → Agrees x y → is_live x ≡ false → Agrees (forgotten x) y × (is_live (forgotten x) ≡ false)
agrees_forgotten Unknown y h d = (h, refl)
agrees_forgotten (Live f) y h d = absurd (true≢false d)
agrees_forgotten Ended y (inl h) d = (inr (refl, sym h), refl)
agrees_forgotten Ended y (inr h) d = absurd (true≢false (ap is_ended h.0))

-- where it ended, who shows nothing live makes no operation
pub operates_not : (e : Bool) (k : Held) → e ≡ true → is_live k ≡ false → may_operate e k ≡ true → ⊥
operates_not e Unknown over d h = both_ways e (not-true e h) over
operates_not e (Live f) over d h = true≢false d
operates_not e Ended over d h = true≢false (sym h)

-- ends bring nothing live
pub no_life_ends : (y x : ℕ) → is_live (only y Ended x) ≡ false
no_life_ends y x = cond_both (x == y) Ended Unknown (λ z. is_live z ≡ false) (λ _. refl) (λ _. refl)

pub no_life_of_these : (about : ℕ → Bool) (x : ℕ) → is_live (ends_of_these about x) ≡ false
no_life_of_these about x = cond_both (about x) Ended Unknown (λ z. is_live z ≡ false) (λ _. refl) (λ _. refl)

-- nor does what is of another session
pub no_life_elsewhere : (y x : ℕ) (k : Held) → (y ≡ x → ⊥) → is_live (only y k x) ≡ false
no_life_elsewhere y x k ne = cond_both (x == y) k Unknown (λ z. is_live z ≡ false) (λ e. absurd (ne (sym (eqb-true x y e)))) (λ _. refl)

-- ---- parts of events

-- a site changes
pub buried_site : (sid n : ℕ) (w : World) (b : ℕ) → Buried sid n w b → (i : ℕ) (s : Site) → Agrees (s.kept sid) (s.all sid) → is_live (s.kept sid) ≡ false
    → (i ≡ 0 → (s.question ≡ 0) ⊎ (b ≤ s.question))
    → ((s.kept sid ≡ Ended → ⊥) → (j : ℕ) → j < n → (i ≡ j → ⊥) → BringNothingLive sid (w.link j i))
    → ((j : ℕ) → j < n → (i ≡ j → ⊥) → b ≤ s.question → s.past j ≡ true → BringNothingLive sid (w.link j i))
    → Buried sid n (with_site w i s) b
buried_site sid n w b h i s agrees dead top calm heard = record {
  some = h.some;
  last = h.last;
  over = h.over;
  agrees = λ k l. put_at (λ k z. Agrees (z.kept sid) (z.all sid)) w.site i s k agrees (λ _. h.agrees k l);
  dead = λ k l. put_at (λ k z. is_live (z.kept sid) ≡ false) w.site i s k dead (λ _. h.dead k l);
  top = put_at (λ k z. k ≡ 0 → (z.question ≡ 0) ⊎ (b ≤ z.question)) w.site i s 0 top (λ _ _. h.top) refl;
  fits = h.fits;
  quiet = h.quiet;
  calm = λ j k p q. put_at (λ k z. (k ≡ j → ⊥) → (z.kept sid ≡ Ended → ⊥) → BringNothingLive sid (w.link j k)) w.site i s k (λ ne d. calm d j p ne) (λ _. h.calm j k p q);
  heard = λ j k p q. put_at (λ k z. (k ≡ j → ⊥) → b ≤ z.question → z.past j ≡ true → BringNothingLive sid (w.link j k)) w.site i s k (λ ne. heard j p ne) (λ _. h.heard j k p q);
}

-- a site sends what is not live
pub buried_sent : (sid n : ℕ) (w : World) (b : ℕ) → Buried sid n w b → (i : ℕ) (to : ℕ → Bool) (m : Message) → BringsNothingLive sid m → FitsBuried sid b m → Buried sid n (sent w i to m) b
buried_sent sid n w b h i to m dead fits = record {
  some = h.some;
  last = h.last;
  over = h.over;
  agrees = h.agrees;
  dead = h.dead;
  top = h.top;
  fits = λ j k p q. sent_is (Each (FitsBuried sid b)) w i to m j k (h.fits j k p q) (λ _ _. each_last (FitsBuried sid b) (w.link j k) m (h.fits j k p q) fits);
  quiet = λ j k p q. sent_is (Quiet sid b) w i to m j k (h.quiet j k p q) (λ _ _. quiet_last sid b (w.link j k) m (h.quiet j k p q) dead);
  calm = λ j k p q ne d. sent_is (BringNothingLive sid) w i to m j k (h.calm j k p q ne d) (λ _ _. nothing_live_last sid (w.link j k) m (h.calm j k p q ne d) dead);
  heard = λ j k p q ne a c. sent_is (BringNothingLive sid) w i to m j k (h.heard j k p q ne a c) (λ _ _. nothing_live_last sid (w.link j k) m (h.heard j k p q ne a c) dead);
}

-- less is in flight
pub buried_less : (sid n : ℕ) (w : World) (b : ℕ) → Buried sid n w b → (link : ℕ → ℕ → List Message) → ((j i : ℕ) → Shrinks (w.link j i) (link j i))
    → Buried sid n (record { site = w.site; link = link; asked = w.asked; ended = w.ended }) b
buried_less sid n w b h link less = record {
  some = h.some;
  last = h.last;
  over = h.over;
  agrees = h.agrees;
  dead = h.dead;
  top = h.top;
  fits = λ j k p q. (less j k).each (FitsBuried sid b) (h.fits j k p q);
  quiet = λ j k p q. (less j k).quiet sid b (h.quiet j k p q);
  calm = λ j k p q ne d. (less j k).dead sid (h.calm j k p q ne d);
  heard = λ j k p q ne a c. (less j k).dead sid (h.heard j k p q ne a c);
}

-- one more question is asked
pub buried_asked : (sid n : ℕ) (w : World) (b : ℕ) → Buried sid n w b → (q : ℕ) → w.asked < q → Buried sid n (record { site = w.site; link = w.link; asked = q; ended = w.ended }) b
buried_asked sid n w b h q above = record { some = h.some; last = let l : b ≤ w.asked = h.last in omega (arith, l, above); over = h.over; agrees = h.agrees; dead = h.dead; top = h.top; fits = h.fits; quiet = h.quiet; calm = h.calm; heard = h.heard }

-- some site ended a session
pub buried_end_of : (sid n : ℕ) (w : World) (b : ℕ) → Buried sid n w b → (y : ℕ) → Buried sid n (with_end_of w y) b
buried_end_of sid n w b h y = record { some = h.some; last = h.last; over = put_at (λ k z. z ≡ true) w.ended y true sid refl (λ _. h.over); agrees = h.agrees; dead = h.dead; top = h.top; fits = h.fits; quiet = h.quiet; calm = h.calm; heard = h.heard }

-- a site takes more facts, or the end
pub buried_holding : (sid n : ℕ) (w : World) (b : ℕ) → Buried sid n w b → (i : ℕ) → i < n → (k a : ℕ → Held) → Agrees (k sid) (a sid) → (((w.site i).kept sid ≡ Ended → ⊥) → is_live (k sid) ≡ false) → Buried sid n (with_site w i (holding k a (w.site i))) b
buried_holding sid n w b h i l k a agrees dead =
    let s : Site = w.site i in
    let g = agrees_joined (s.kept sid) (s.all sid) (k sid) (a sid) (h.agrees i l) agrees (h.dead i l) dead in
    buried_site sid n w b h i (holding k a s) g.0 g.1
    (λ e. subst (λ (z : ℕ). ((w.site z).question ≡ 0) ⊎ (b ≤ (w.site z).question)) (sym e) h.top)
    (λ d j p ne. h.calm j i p l ne (λ e. d (ended_stays (s.kept sid) (k sid) e)))
    (λ j p ne. h.heard j i p l ne)

-- a site that all have marked forgets these
pub buried_forgets : (sid n : ℕ) (w : World) (b : ℕ) → Buried sid n w b → (i : ℕ) → i < n → (about : ℕ → Bool) → has_all_marks n i (w.site i) ≡ true → (about sid ≡ true → b ≤ (w.site i).question)
    → Buried sid n (with_site w i (forgetful about (w.site i))) b
buried_forgets sid n w b h i l about marks at =
    let s : Site = w.site i in
    let k : Held = s.kept sid in
    let g = agrees_forgotten k (s.all sid) (h.agrees i l) (h.dead i l) in
    buried_site sid n w b h i (forgetful about s)
    (cond_both (about sid) (forgotten k) k (λ z. Agrees z (s.all sid)) (λ _. g.0) (λ _. h.agrees i l))
    (cond_both (about sid) (forgotten k) k (λ z. is_live z ≡ false) (λ _. g.1) (λ _. h.dead i l))
    (λ _. inl refl)
    (cond_both (about sid) (forgotten k) k (λ z. (z ≡ Ended → ⊥) → (j : ℕ) → j < n → (i ≡ j → ⊥) → BringNothingLive sid (w.link j i))
    (λ e _ j p ne. h.heard j i p l ne (at e) (mark_of n i s j marks p ne).1)
    (λ _ d j p ne. h.calm j i p l ne d))
    (λ j p ne c d. nobody_true j d)

-- a site has another's mark, behind which that one tells nothing live
pub buried_marked : (sid n : ℕ) (w : World) (b : ℕ) → Buried sid n w b → (j i q : ℕ) → i < n → (b ≤ q → BringNothingLive sid (w.link j i)) → Buried sid n (with_site w i (marked i j q (w.site i))) b
buried_marked sid n w b h j i q l behind =
    let s : Site = w.site i in
    marked_is (λ z. Buried sid n (with_site w i z) b) i j q s
    (λ e. buried_site sid n w b h i (record { kept = s.kept; all = s.all; question = q; about = s.about; past = put s.past j true }) (h.agrees i l) (h.dead i l)
    (λ z. subst (λ (x : ℕ). (x ≡ 0) ⊎ (b ≤ x)) (sym e) (subst (λ (x : ℕ). ((w.site x).question ≡ 0) ⊎ (b ≤ (w.site x).question)) (sym z) h.top))
    (λ d a p ne. h.calm a i p l ne d)
    (λ a p ne c t. elim (put_true s.past j a t) [
      | inl same ↦ subst (λ (x : ℕ). BringNothingLive sid (w.link x i)) (sym same) (behind c)
      | inr was ↦ h.heard a i p l ne (subst (λ (x : ℕ). b ≤ x) e c) was
    ]))
    (λ other later. buried_site sid n w b h i (record { kept = s.kept; all = s.all; question = q; about = s.about; past = put nobody j true }) (h.agrees i l) (h.dead i l)
    (λ z. absurd (other z))
    (λ d a p ne. h.calm a i p l ne d)
    (λ a p ne c t. elim (put_true nobody j a t) [
      | inl same ↦ subst (λ (x : ℕ). BringNothingLive sid (w.link x i)) (sym same) (behind c)
      | inr was ↦ nobody_true a was
    ]))
    (buried_site sid n w b h i s (h.agrees i l) (h.dead i l) (λ z. subst (λ (x : ℕ). ((w.site x).question ≡ 0) ⊎ (b ≤ (w.site x).question)) (sym z) h.top)
    (λ d a p ne. h.calm a i p l ne d) (λ a p ne. h.heard a i p l ne))

-- ---- a site takes a message

module _ (sid n : ℕ) (w : World) (b : ℕ) (h : Buried sid n w b) (j i : ℕ) (p : j < n) (l : i < n) (ne : i ≡ j → ⊥) where
  -- the message was the first in flight, and the world has the rest
  took_first : (m : Message) (ms : List Message) → w.link j i ≡ m ∷ ms → Buried sid n (taken n (with_link w j i ms) j i m) b
  took_first m ms at = of_message m at
    where
      v : World
      v = with_link w j i ms

      fewer : (m : Message) → w.link j i ≡ m ∷ ms → Buried sid n v b
      fewer m at = buried_less sid n w b h v.link (set_shrinks w j i ms (subst (λ (z : List Message). Shrinks z ms) (sym at) (shrinks_by_first m ms)))

      fit : (m : Message) → w.link j i ≡ m ∷ ms → FitsBuried sid b m
      fit m at = (subst (Each (FitsBuried sid b)) at (h.fits j i p l)).0

      dead : (m : Message) → w.link j i ≡ m ∷ ms → ((w.site i).kept sid ≡ Ended → ⊥) → BringsNothingLive sid m
      dead m at d = (subst (BringNothingLive sid) at (h.calm j i p l ne d)).0

      behind : (m : Message) → w.link j i ≡ m ∷ ms → IsMark b m → BringNothingLive sid (v.link j i)
      behind m at is = subst (BringNothingLive sid) (sym (link_there w j i ms)) ((subst (Quiet sid b) at (h.quiet j i p l)).0 is)

      of_message : (m : Message) → w.link j i ≡ m ∷ ms → Buried sid n (taken n v j i m) b
      of_message (Whole k a) at = buried_holding sid n v b (fewer (Whole k a) at) i l k a (fit (Whole k a) at) (dead (Whole k a) at)
      of_message (Facts y f) at = buried_holding sid n v b (fewer (Facts y f) at) i l (only y (Live f)) (only y (Live f)) (inl refl) (dead (Facts y f) at)
      of_message (End y) at = buried_holding sid n v b (fewer (End y) at) i l (only y Ended) (only y Ended) (inl refl) (λ _. no_life_ends y sid)
      of_message (Ask q about) at =
          let e : ℕ → Held = ends_of_these about in
          let one : World = with_more v i e e in
          let two = buried_holding sid n v b (fewer (Ask q about) at) i l e e (inl refl) (λ _. no_life_of_these about sid) in
          buried_marked sid n one b two j i q l (behind (Ask q about) at)
      of_message (Past q) at = buried_marked sid n v b (fewer (Past q) at) j i q l (behind (Past q) at)
      of_message (Forget q about) at = cond_both (q == s.question && has_all_marks n i s) (with_site v i (forgetful about s)) v (λ z. Buried sid n z b)
          (λ e. let g = and_parts (q == s.question) (has_all_marks n i s) e in
          buried_forgets sid n v b (fewer (Forget q about) at) i l about g.1 (λ t. subst (λ (x : ℕ). b ≤ x) (eqb-true q s.question g.0) (fit (Forget q about) at t)))
          (λ _. fewer (Forget q about) at)
        where
          s : Site
          s = w.site i

  -- whatever is in flight
  took_some : (ms : List Message) → w.link j i ≡ ms → Buried sid n (first_taken n w j i ms) b
  took_some [] at = h
  took_some (m ∷ ms) at = took_first m ms at

-- ---- each event

-- a question that is decided is that one or a later one
decided : (sid n : ℕ) (w : World) (b : ℕ) → 1 < n → Buried sid n w b → has_all_marks n 0 (w.site 0) ≡ true → b ≤ (w.site 0).question
decided sid n w b big h e =
    let asks = (mark_of n 0 (w.site 0) 1 e big (λ z. omega (arith, z))).0 in
    elim h.top [ inl none ↦ omega (arith, none, asks) | inr there ↦ there ]

pub buried_happens : (sid n : ℕ) (w : World) (b : ℕ) → 1 < n → Buried sid n w b → (e : Event) → Buried sid n (happens n w e) b
buried_happens sid n w b big h (Operates i y f) = cond_both _ _ w (λ z. Buried sid n z b)
    (λ e.
    let g = and_parts _ (may_operate (w.ended y) ((w.site i).kept y)) e in
    let l = ltb-true i n g.0 in
    let k : ℕ → Held = only y (Live f) in
    elim (cases_eq y sid) [
      | inl same ↦ absurd (operates_not (w.ended sid) ((w.site i).kept sid) h.over (h.dead i l) (subst (λ (z : ℕ). may_operate (w.ended z) ((w.site i).kept z) ≡ true) same g.1))
      | inr ne ↦ let dead = no_life_elsewhere y sid (Live f) ne in
          buried_sent sid n (with_more w i k k) b (buried_holding sid n w b h i l k k (inl refl) (λ _. dead)) i (others i) (Facts y f) dead tt
    ])
    (λ _. h)
buried_happens sid n w b big h (Ends i y) = cond_both _ _ w (λ z. Buried sid n z b)
    (λ e.
    let g = and_parts _ (is_live ((w.site i).kept y)) e in
    let l = ltb-true i n g.0 in
    let k : ℕ → Held = only y Ended in
    let v : World = with_end_of w y in
    buried_sent sid n (with_more v i k k) b (buried_holding sid n v b (buried_end_of sid n w b h y) i l k k (inl refl) (λ _. no_life_ends y sid)) i (others i) (End y) tt tt)
    (λ _. h)
buried_happens sid n w b big h (Writes j i) = cond_both _ _ w (λ z. Buried sid n z b)
    (λ e. buried_sent sid n w b h j (λ k. k == i) (Whole (w.site j).kept (w.site j).all) (h.dead j (ltb-true j n e)) (h.agrees j (ltb-true j n e)))
    (λ _. h)
buried_happens sid n w b big h (Tells j i y) = cond_both _ _ w (λ z. Buried sid n z b) (λ _. buried_sent sid n w b h j (λ k. k == i) (End y) tt tt) (λ _. h)
buried_happens sid n w b big h (Asks q these) = cond_both _ _ w (λ z. Buried sid n z b)
    (λ e.
    let s : Site = w.site 0 in
    let about : ℕ → Bool = those_ended s these in
    let zero_in : 0 < n = omega (arith, big) in
    let last : b ≤ w.asked = h.last in
    let above : w.asked < q = ltb-true w.asked q e in
    let v : World = record { site = w.site; link = w.link; asked = q; ended = w.ended } in
    let x : Site = record { kept = s.kept; all = s.all; question = q; about = about; past = nobody } in
    buried_sent sid n (with_site v 0 x) b
    (buried_site sid n v b (buried_asked sid n w b h q above) 0 x (h.agrees 0 zero_in) (h.dead 0 zero_in) (λ _. inr (omega (arith, last, above)))
    (λ d j p ne. h.calm j 0 p zero_in ne d) (λ j p ne c d. nobody_true j d))
    0 (others 0) (Ask q about) tt tt)
    (λ _. h)
buried_happens sid n w b big h (Answers i) = cond_both _ _ w (λ z. Buried sid n z b) (λ _. buried_sent sid n w b h i (λ k. k == 0) (Past (w.site i).question) tt tt) (λ _. h)
buried_happens sid n w b big h (Marks j k) = cond_both _ _ w (λ z. Buried sid n z b) (λ _. buried_sent sid n w b h j (λ p. p == k && not (p == 0)) (Past (w.site j).question) tt tt) (λ _. h)
buried_happens sid n w b big h (Releases k) = cond_both _ _ w (λ z. Buried sid n z b)
    (λ e. buried_sent sid n w b h 0 (λ p. p == k) (Forget (w.site 0).question (w.site 0).about) tt (λ _. decided sid n w b big h e))
    (λ _. h)
buried_happens sid n w b big h Forgets = cond_both _ _ w (λ z. Buried sid n z b)
    (λ e. buried_forgets sid n w b h 0 (omega (arith, big)) (w.site 0).about e (λ _. decided sid n w b big h e))
    (λ _. h)
buried_happens sid n w b big h (Drops i) = cond_both _ _ w (λ z. Buried sid n z b)
    (λ e. let l = ltb-true i n e in
    buried_site sid n w b h i (without_question (w.site i)) (h.agrees i l) (h.dead i l) (λ _. inl refl) (λ d j p ne. h.calm j i p l ne d) (λ j p ne c d. nobody_true j d))
    (λ _. h)
buried_happens sid n w b big h (Takes j i) = cond_both _ _ w (λ z. Buried sid n z b)
    (λ e.
    let g = three (nat_lt j n) (nat_lt i n) (not (i == j)) e in
    took_some sid n w b h j i (ltb-true j n g.0) (ltb-true i n g.1) (eqb-false i j (not-true (i == j) g.2)) (w.link j i) refl)
    (λ _. h)
buried_happens sid n w b big h (Cuts j i k) = buried_less sid n w b h _ (set_shrinks w j i (first k (w.link j i)) (shrinks_to_first k (w.link j i)))
buried_happens sid n w b big h (Restarts i) = cond_both _ _ w (λ z. Buried sid n z b)
    (λ e.
    let l = ltb-true i n e in
    let empty : (j : ℕ) → (unlinked w i).link j i ≡ [] = λ j. none_there w i j in
    buried_site sid n (unlinked w i) b (buried_less sid n w b h _ (less_there w i)) i fresh_site (inl refl) refl (λ _. inl refl)
    (λ d j p ne. subst (BringNothingLive sid) (sym (empty j)) tt) (λ j p ne c d. nobody_true j d))
    (λ _. h)
