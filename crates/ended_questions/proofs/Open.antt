-- While a question is open: what each part of an event keeps, and when the session is buried.
use Rattle.std.proofs.Common.{arith, ◌≡◌, ℕ, ◌+◌, ◌≤◌, ◌<◌, true, false, Bool, ◌==◌, List, inl, inr, refl, sym, ap, ◌∙◌, subst}
use Rattle.std.proofs.lemmas.Bool.{eqb-true, true≢false, cond_both, both_ways, cases_Bool, false_from_ne_true}
use Rattle.ended_questions.specs.Held.{Held, Ended, is_live}
use Rattle.ended_questions.specs.Forgetting.{Message, Whole, Facts, End, Ask, Past, Forget, Site, World, nobody, with_end_of, asking, holding, put, with_site, sent, with_more, with_mark, each_below}
use Rattle.ended_questions.specs.Laws.{BringsNothingLive, BringNothingLive}
use Rattle.ended_questions.proofs.Queues.{Each, IsMark, IsNoMark, Quiet, each_last, nothing_live_last, quiet_last, each_weaker, both_each, quiet_without, Shrinks, put_at, put_true, nobody_true, marked_is, sent_is, below}
use Rattle.ended_questions.proofs.Buried.{Buried, FitsBuried, ended_stays}
use Rattle.ended_questions.proofs.Yet.{FitsYet, IsAbout, Yet, Asked}

-- ---- parts of events

pub asked_site : (sid n : ℕ) (w : World) (took : ℕ → Bool) → Asked sid n w took → (i : ℕ) (s : Site)
    → (took i ≡ true → s.kept sid ≡ Ended)
    → (s.question ≡ w.asked → s.past 0 ≡ true → took i ≡ true)
    → (i ≡ 0 → (j : ℕ) → j < n → (j ≡ 0 → ⊥) → s.question ≡ w.asked → s.past j ≡ true → ⊥)
    → ((j : ℕ) → j < n → took j ≡ false → s.question ≡ w.asked → s.past j ≡ true → ⊥)
    → ((j : ℕ) → j < n → (i ≡ j → ⊥) → took j ≡ true → w.asked ≤ s.question → s.past j ≡ true → BringNothingLive sid (w.link j i))
    → Asked sid n (with_site w i s) took
asked_site sid n w took h i s held mine said known heard = record {
  some = h.some;
  own = h.own;
  held = λ k l. put_at (λ k z. took k ≡ true → z.kept sid ≡ Ended) w.site i s k held (λ _. h.held k l);
  mine = λ k l. put_at (λ k z. z.question ≡ w.asked → z.past 0 ≡ true → took k ≡ true) w.site i s k mine (λ _. h.mine k l);
  said = λ j p ne. put_at (λ k z. k ≡ 0 → z.question ≡ w.asked → z.past j ≡ true → ⊥) w.site i s 0 (λ e. said e j p ne) (λ _ _. h.said j p ne) refl;
  known = λ j k p q no. put_at (λ k z. z.question ≡ w.asked → z.past j ≡ true → ⊥) w.site i s k (known j p no) (λ _. h.known j k p q no);
  heard = λ j k p q. put_at (λ k z. (k ≡ j → ⊥) → took j ≡ true → w.asked ≤ z.question → z.past j ≡ true → BringNothingLive sid (w.link j k)) w.site i s k (heard j p) (λ _. h.heard j k p q);
  quiet = h.quiet;
  marks = h.marks;
  ready = h.ready;
  topic = h.topic;
}

pub asked_sent : (sid n : ℕ) (w : World) (took : ℕ → Bool) → Asked sid n w took → (i : ℕ) (to : ℕ → Bool) (m : Message)
    → (took i ≡ true → BringsNothingLive sid m) → (took i ≡ false → IsNoMark w.asked m) → ((i ≡ 0 → ⊥) → to 0 ≡ true → IsNoMark w.asked m) → IsAbout sid w.asked m
    → Asked sid n (sent w i to m) took
asked_sent sid n w took h i to m dead no_mark not_ready topic = record {
  some = h.some;
  own = h.own;
  held = h.held;
  mine = h.mine;
  said = h.said;
  known = h.known;
  heard = λ j k p q ne t a c. sent_is (BringNothingLive sid) w i to m j k (h.heard j k p q ne t a c)
      (λ e _. nothing_live_last sid (w.link j k) m (h.heard j k p q ne t a c) (dead (subst (λ (x : ℕ). took x ≡ true) e t)));
  quiet = λ j k p q t. sent_is (Quiet sid w.asked) w i to m j k (h.quiet j k p q t) (λ e _. quiet_last sid w.asked (w.link j k) m (h.quiet j k p q t) (dead (subst (λ (x : ℕ). took x ≡ true) e t)));
  marks = λ j k p q t. sent_is (Each (IsNoMark w.asked)) w i to m j k (h.marks j k p q t)
      (λ e _. each_last (IsNoMark w.asked) (w.link j k) m (h.marks j k p q t) (no_mark (subst (λ (x : ℕ). took x ≡ false) e t)));
  ready = λ j p ne. sent_is (Each (IsNoMark w.asked)) w i to m j 0 (h.ready j p ne)
      (λ e t. each_last (IsNoMark w.asked) (w.link j 0) m (h.ready j p ne) (not_ready (λ z. ne (e ∙ z)) t));
  topic = λ j k p q. sent_is (Each (IsAbout sid w.asked)) w i to m j k (h.topic j k p q) (λ _ _. each_last (IsAbout sid w.asked) (w.link j k) m (h.topic j k p q) topic);
}

pub asked_less : (sid n : ℕ) (w : World) (took : ℕ → Bool) → Asked sid n w took → (link : ℕ → ℕ → List Message) → ((j i : ℕ) → Shrinks (w.link j i) (link j i))
    → Asked sid n (record { site = w.site; link = link; asked = w.asked; ended = w.ended }) took
asked_less sid n w took h link less = record {
  some = h.some;
  own = h.own;
  held = h.held;
  mine = h.mine;
  said = h.said;
  known = h.known;
  heard = λ j k p q ne t a c. (less j k).dead sid (h.heard j k p q ne t a c);
  quiet = λ j k p q t. (less j k).quiet sid w.asked (h.quiet j k p q t);
  marks = λ j k p q t. (less j k).each (IsNoMark w.asked) (h.marks j k p q t);
  ready = λ j p ne. (less j 0).each (IsNoMark w.asked) (h.ready j p ne);
  topic = λ j k p q. (less j k).each (IsAbout sid w.asked) (h.topic j k p q);
}

pub asked_ended : (sid n : ℕ) (w : World) (took : ℕ → Bool) → Asked sid n w took → (y : ℕ) → Asked sid n (with_end_of w y) took
asked_ended sid n w took h y = record { some = h.some; own = h.own; held = h.held; mine = h.mine; said = h.said; known = h.known; heard = h.heard; quiet = h.quiet; marks = h.marks; ready = h.ready; topic = h.topic }

pub asked_holding : (sid n : ℕ) (w : World) (took : ℕ → Bool) → Asked sid n w took → (i : ℕ) → i < n → (k a : ℕ → Held) → Asked sid n (with_more w i k a) took
asked_holding sid n w took h i l k a =
    let s : Site = w.site i in
    asked_site sid n w took h i (holding k a s) (λ t. ended_stays (s.kept sid) (k sid) (h.held i l t)) (h.mine i l)
    (λ z j p ne. subst (λ (x : ℕ). (w.site x).question ≡ w.asked → (w.site x).past j ≡ true → ⊥) (sym z) (h.said j p ne))
    (λ j p no. h.known j i p l no) (λ j p ne. h.heard j i p l ne)

pub asked_dropped : (sid n : ℕ) (w : World) (took : ℕ → Bool) → Asked sid n w took → (i : ℕ) → i < n → (s : Site) → (took i ≡ true → s.kept sid ≡ Ended) → s.past ≡ nobody → Asked sid n (with_site w i s) took
asked_dropped sid n w took h i l s held none =
    let is = λ (P : Type 0) (j : ℕ) (c : s.past j ≡ true). nobody_true {P = P} j (subst (λ (f : ℕ → Bool). f j ≡ true) none c) in
    asked_site sid n w took h i s held (λ _ c. is (took i ≡ true) 0 c) (λ z j p ne _ c. is ⊥ j c) (λ j p no _ c. is ⊥ j c) (λ j p ne t _ c. is (BringNothingLive sid (w.link j i)) j c)

pub asked_marked : (sid n : ℕ) (w : World) (took : ℕ → Bool) → Asked sid n w took → (i j q : ℕ) → i < n
    → (q ≡ w.asked → j ≡ 0 → took i ≡ true) → (i ≡ 0 → (j ≡ 0 → ⊥) → q ≡ w.asked → ⊥) → (took j ≡ false → q ≡ w.asked → ⊥)
    → (took j ≡ true → w.asked ≤ q → BringNothingLive sid (w.link j i))
    → Asked sid n (with_mark w i j q) took
asked_marked sid n w took h i j q l mine said known heard =
    let s : Site = w.site i in
    let saids = λ (z : i ≡ 0) (a : ℕ) (p : a < n) (ne : a ≡ 0 → ⊥). subst (λ (x : ℕ). (w.site x).question ≡ w.asked → (w.site x).past a ≡ true → ⊥) (sym z) (h.said a p ne) in
    marked_is (λ z. Asked sid n (with_site w i z) took) i j q s
    (λ e. asked_site sid n w took h i (record { kept = s.kept; all = s.all; question = q; about = s.about; past = put s.past j true }) (h.held i l)
    (λ at c. elim (put_true s.past j 0 c) [ inl same ↦ mine at (sym same) | inr was ↦ h.mine i l (sym e ∙ at) was ])
    (λ z a p ne at c. elim (put_true s.past j a c) [ inl same ↦ said z (λ x. ne (same ∙ x)) at | inr was ↦ saids z a p ne (sym e ∙ at) was ])
    (λ a p no at c. elim (put_true s.past j a c) [ inl same ↦ known (subst (λ (x : ℕ). took x ≡ false) same no) at | inr was ↦ h.known a i p l no (sym e ∙ at) was ])
    (λ a p ne t at c. elim (put_true s.past j a c) [
      | inl same ↦ subst (λ (x : ℕ). BringNothingLive sid (w.link x i)) (sym same) (heard (subst (λ (x : ℕ). took x ≡ true) same t) at)
      | inr was ↦ h.heard a i p l ne t (subst (λ (x : ℕ). w.asked ≤ x) e at) was
    ]))
    (λ other later. asked_site sid n w took h i (record { kept = s.kept; all = s.all; question = q; about = s.about; past = put nobody j true }) (h.held i l)
    (λ at c. elim (put_true nobody j 0 c) [ inl same ↦ mine at (sym same) | inr was ↦ nobody_true 0 was ])
    (λ z. absurd (other z))
    (λ a p no at c. elim (put_true nobody j a c) [ inl same ↦ known (subst (λ (x : ℕ). took x ≡ false) same no) at | inr was ↦ nobody_true a was ])
    (λ a p ne t at c. elim (put_true nobody j a c) [
      | inl same ↦ subst (λ (x : ℕ). BringNothingLive sid (w.link x i)) (sym same) (heard (subst (λ (x : ℕ). took x ≡ true) same t) at)
      | inr was ↦ nobody_true a was
    ]))
    (asked_site sid n w took h i s (h.held i l) (h.mine i l) saids (λ a p no. h.known a i p l no) (λ a p ne. h.heard a i p l ne))

-- ---- one more site takes the question

put_stays : (f : ℕ → Bool) (i k : ℕ) → f k ≡ true → put f i true k ≡ true
put_stays f i k h = put_at (λ k z. z ≡ true) f i true k refl (λ _. h)

put_false : (f : ℕ → Bool) (i k : ℕ) → put f i true k ≡ false → f k ≡ false
put_false f i k = cond_both (k == i) true (f k) (λ z. z ≡ false → f k ≡ false) (λ _ e. absurd (true≢false e)) (λ _ e. e)

-- behind who has no mark in flight nothing is to be quiet
unmarked : (sid asked j : ℕ) (ended : Bool) (ms : List Message) → Each (FitsYet sid ended asked j) ms → Each (IsNoMark asked) ms → Quiet sid asked ms
unmarked sid asked j ended ms fits none = quiet_without sid asked ms (each_weaker _ (λ m. IsMark asked m → ⊥) is_none ms (both_each (FitsYet sid ended asked j) (IsNoMark asked) ms fits none))
  where
    is_none : (m : Message) → FitsYet sid ended asked j m × IsNoMark asked m → IsMark asked m → ⊥
    is_none (Whole k a) h is = is
    is_none (Facts x f) h is = is
    is_none (End x) h is = is
    is_none (Ask q about) h is = let low : q ≤ asked = h.0.0 in h.1 (omega (arith, low, is))
    is_none (Past q) h is = let low : q ≤ asked = h.0.0 in h.1 (omega (arith, low, is))
    is_none (Forget q about) h is = is

pub asked_took : (sid n : ℕ) (w : World) (took : ℕ → Bool) → Yet sid n w → Asked sid n w took → (i : ℕ) → i < n → (w.site i).kept sid ≡ Ended → Asked sid n w (put took i true)
asked_took sid n w took y h i l ended = record {
  some = h.some;
  own = put_stays took i 0 h.own;
  held = λ k q t. elim (put_true took i k t) [ inl e ↦ subst (λ (x : ℕ). (w.site x).kept sid ≡ Ended) (sym e) ended | inr was ↦ h.held k q was ];
  mine = λ k q at c. put_stays took i k (h.mine k q at c);
  said = h.said;
  known = λ j k p q no. h.known j k p q (put_false took i j no);
  heard = λ j k p q ne t at c. elim (cases_Bool (took j)) [
    | inl was ↦ h.heard j k p q ne was at c
    | inr not_yet ↦ let low : (w.site k).question ≤ w.asked = y.low k q in absurd (h.known j k p q not_yet (omega (arith, low, at)) c)
  ];
  quiet = λ j k p q t. elim (cases_Bool (took j)) [
    | inl was ↦ h.quiet j k p q was
    | inr not_yet ↦ unmarked sid w.asked j (w.ended sid) (w.link j k) (y.fits j k p q) (h.marks j k p q not_yet)
  ];
  marks = λ j k p q no. h.marks j k p q (put_false took i j no);
  ready = h.ready;
  topic = h.topic;
}

-- where each site took it, at one moment each holds the end, and what was live before is in flight before the marks
pub buried_now : (sid n : ℕ) (w : World) (took : ℕ → Bool) → 1 < n → Yet sid n w → Asked sid n w took → each_below n took ≡ true → Buried sid n w w.asked
buried_now sid n w took big y h each =
    let zero_in : 0 < n = omega (arith, big) in
    let ended = λ (i : ℕ) (l : i < n). h.held i l (below n took i each l) in
    record {
      some = h.some;
      last = omega arith;
      over = y.over 0 zero_in (ended 0 zero_in);
      agrees = λ i l. inl (y.agrees i l);
      dead = λ i l. ap is_live (ended i l);
      top = elim y.top [ inl none ↦ inl none | inr now ↦ inr (omega (arith, now)) ];
      fits = λ j i p l. each_weaker (FitsYet sid (w.ended sid) w.asked j) (FitsBuried sid w.asked) (fits j) (w.link j i) (y.fits j i p l);
      quiet = λ j i p l. h.quiet j i p l (below n took j each p);
      calm = λ j i p l ne d. absurd (d (ended i l));
      heard = λ j i p l ne. h.heard j i p l ne (below n took j each p);
    }
  where
    fits : (j : ℕ) (m : Message) → FitsYet sid (w.ended sid) w.asked j m → FitsBuried sid w.asked m
    fits j (Whole k a) f = inl f.0
    fits j (Facts x f) g = tt
    fits j (End x) f = tt
    fits j (Ask q about) f = tt
    fits j (Past q) f = tt
    fits j (Forget q about) f = λ t. absurd (both_ways (about sid) f t)

-- ---- a question is asked

pub asks_anew : (sid n : ℕ) (w : World) (r : ℕ) (about : ℕ → Bool) → w.asked < r → 1 < n → Yet sid n w → (about sid ≡ true → (w.site 0).kept sid ≡ Ended)
    → Yet sid n (asking w r about) × (about sid ≡ true → Asked sid n (asking w r about) (λ k. k == 0) × (each_below n (λ k. k == 0) ≡ false))
asks_anew sid n w r about above big y ended =
    let zero_in : 0 < n = omega (arith, big) in
    let s : Site = w.site 0 in
    let x : Site = record { kept = s.kept; all = s.all; question = r; about = about; past = nobody } in (
      record {
        agrees = λ k l. put_at (λ k z. z.kept sid ≡ z.all sid) w.site 0 x k (y.agrees 0 zero_in) (λ _. y.agrees k l);
        over = λ k l. put_at (λ k z. z.kept sid ≡ Ended → w.ended sid ≡ true) w.site 0 x k (y.over 0 zero_in) (λ _. y.over k l);
        low = λ k l. put_at (λ k z. z.question ≤ r) w.site 0 x k (omega arith) (λ _. let low : (w.site k).question ≤ w.asked = y.low k l in omega (arith, above, low));
        top = inr refl;
        fits = λ j k p q. each_weaker (FitsYet sid (w.ended sid) w.asked j) (FitsYet sid (w.ended sid) r j) (later j) (w.link j k) (y.fits j k p q);
      },
      λ is. (
        record {
          some = omega (arith, above);
          own = refl;
          held = λ k l. put_at (λ k z. (k == 0) ≡ true → z.kept sid ≡ Ended) w.site 0 x k (λ _. ended is) (λ ne t. absurd (ne (eqb-true k 0 t)));
          mine = λ k l. put_at (λ k z. z.question ≡ r → z.past 0 ≡ true → (k == 0) ≡ true) w.site 0 x k (λ _ _. refl) (λ _ at. early k l at);
          said = λ j p ne at c. nobody_true j c;
          known = λ j k p q no. put_at (λ k z. z.question ≡ r → z.past j ≡ true → ⊥) w.site 0 x k (λ _ c. nobody_true j c) (λ _ at. early k q at);
          heard = λ j k p q ne t. put_at (λ k z. r ≤ z.question → z.past j ≡ true → BringNothingLive sid (w.link j k)) w.site 0 x k (λ _ c. nobody_true j c)
              (λ _ at. let low : (w.site k).question ≤ w.asked = y.low k q in absurd (omega (arith, above, low, at)));
          quiet = λ j k p q t. quiet_without sid r (w.link j k) (each_weaker (FitsYet sid (w.ended sid) w.asked j) (λ m. IsMark r m → ⊥) (none_yet j) (w.link j k) (y.fits j k p q));
          marks = λ j k p q t. each_weaker (FitsYet sid (w.ended sid) w.asked j) (IsNoMark r) (no_mark_yet j) (w.link j k) (y.fits j k p q);
          ready = λ j p ne. each_weaker (FitsYet sid (w.ended sid) w.asked j) (IsNoMark r) (no_mark_yet j) (w.link j 0) (y.fits j 0 p zero_in);
          topic = λ j k p q. each_weaker (FitsYet sid (w.ended sid) w.asked j) (IsAbout sid r) (not_yet_about j) (w.link j k) (y.fits j k p q);
        },
        false_from_ne_true (each_below n (λ k. k == 0)) (λ t. true≢false (sym (below n (λ k. k == 0) 1 t big))),
      ),
    )
  where
    early : {P : Type 0} (k : ℕ) → k < n → (w.site k).question ≡ r → P
    early k l at = let low : (w.site k).question ≤ w.asked = y.low k l in absurd (omega (arith, above, low, at))

    later : (j : ℕ) (m : Message) → FitsYet sid (w.ended sid) w.asked j m → FitsYet sid (w.ended sid) r j m
    later j (Whole k a) f = f
    later j (Facts x f) g = tt
    later j (End x) f = f
    later j (Ask q about) f = let low : q ≤ w.asked = f.0 in (omega (arith, above, low), f.1, f.2)
    later j (Past q) f = let low : q ≤ w.asked = f.0 in (omega (arith, above, low), f.1)
    later j (Forget q about) f = f

    none_yet : (j : ℕ) (m : Message) → FitsYet sid (w.ended sid) w.asked j m → IsMark r m → ⊥
    none_yet j (Whole k a) f is = is
    none_yet j (Facts x f) g is = is
    none_yet j (End x) f is = is
    none_yet j (Ask q about) f is = let low : q ≤ w.asked = f.0 in omega (arith, above, low, is)
    none_yet j (Past q) f is = let low : q ≤ w.asked = f.0 in omega (arith, above, low, is)
    none_yet j (Forget q about) f is = is

    no_mark_yet : (j : ℕ) (m : Message) → FitsYet sid (w.ended sid) w.asked j m → IsNoMark r m
    no_mark_yet j (Whole k a) f = tt
    no_mark_yet j (Facts x f) g = tt
    no_mark_yet j (End x) f = tt
    no_mark_yet j (Ask q about) f = let low : q ≤ w.asked = f.0 in λ e. omega (arith, above, low, e)
    no_mark_yet j (Past q) f = let low : q ≤ w.asked = f.0 in λ e. omega (arith, above, low, e)
    no_mark_yet j (Forget q about) f = tt

    not_yet_about : (j : ℕ) (m : Message) → FitsYet sid (w.ended sid) w.asked j m → IsAbout sid r m
    not_yet_about j (Whole k a) f = tt
    not_yet_about j (Facts x f) g = tt
    not_yet_about j (End x) f = tt
    not_yet_about j (Ask q about) f = let low : q ≤ w.asked = f.0 in λ e. absurd (omega (arith, above, low, e))
    not_yet_about j (Past q) f = tt
    not_yet_about j (Forget q about) f = tt
