-- What stays true, event by event.
use Rattle.std.proofs.Common.{arith, ◌≡◌, ℕ, ◌+◌, ◌≤◌, ◌<◌, true, false, Bool, not, ◌&&◌, ◌==◌, List, [], ◌∷◌, ◌⊎◌, inl, inr, nat_lt, refl, sym, ap, ◌∙◌, subst}
use Rattle.std.proofs.lemmas.Bool.{eqb-true, eqb-false, and_parts, true≢false, cond_both, ltb-true, both_ways, not-true, cases_Bool, cases_eq, true_from_ne_false}
use Rattle.ended_questions.specs.Held.{Held, Unknown, Live, Ended, joined, is_live, is_ended, forgotten}
use Rattle.ended_questions.specs.Forgetting.{Message, Whole, Facts, End, Ask, Past, Forget, Site, World, Event, Operates, Ends, Writes, Tells, Asks, Marks, Answers, Releases, Forgets, Drops, Takes, Cuts, Restarts, only, ends_of_these, those_ended, with_end_of, asking, fresh_site, holding, without_question, forgetful, has_all_marks, took_question, may_operate, put, with_site, sent, with_link, with_more, with_mark, unlinked, others, first, taken, first_taken, happens, after_all, start, each_below}
use Rattle.ended_questions.specs.Laws.{BringNothingLive}
use Rattle.ended_questions.proofs.Queues.{Each, IsMark, IsNoMark, Quiet, Shrinks, shrinks_to_first, shrinks_by_first, put_at, nobody_true, link_there, set_shrinks, mark_of, none_there, less_there, three, all_below}
use Rattle.ended_questions.proofs.Buried.{Buried, buried_happens, buried_marked, no_life_elsewhere}
use Rattle.ended_questions.proofs.Yet.{FitsYet, IsAbout, Yet, Asked, yet_site, yet_sent, yet_less, yet_ended, yet_holding, yet_marked, ends_of, with_end}
use Rattle.ended_questions.proofs.Open.{asked_sent, asked_less, asked_marked, asked_holding, asked_dropped, asked_took, asks_anew, buried_now}
use Rattle.ended_questions.proofs.Lost.{Fell, Stands, fell_site, fell_sent, fell_less, fell_marked, none_site, none_marked, stands_holding, stands_ended, stands_less, stands_sent, stands_dropped}

-- The session is buried, or nobody has forgotten.
abbrev pub Sound : ℕ → ℕ → World → Type 0
Sound sid n w = ((b : ℕ) × Buried sid n w b) ⊎ (Yet sid n w × Stands sid n w)

-- ---- small things

is_the_end : (k : Held) → is_ended k ≡ true → k ≡ Ended
is_the_end Ended h = refl
is_the_end (Live f) h = absurd (true≢false (sym h))
is_the_end Unknown h = absurd (true≢false (sym h))

live_is_not_ended : (k : Held) → is_live k ≡ true → k ≡ Ended → ⊥
live_is_not_ended k h e = true≢false (sym h ∙ ap is_live e)

operates_unended : (e : Bool) (k : Held) → may_operate e k ≡ true → k ≡ Ended → ⊥
operates_unended e k h same = true≢false (sym h ∙ ap (may_operate e) same)

live_ends_not : {P : Type 0} (f : List ℕ) → Live f ≡ Ended → P
live_ends_not f h = absurd (true≢false (ap is_live h))

-- whoever holds more facts, and held no end, holds none
unended_still : (k : Held) (f : List ℕ) → (k ≡ Ended → ⊥) → joined k (Live f) ≡ Ended → ⊥
unended_still k f h e = elim (ends_of k (Live f) e) [ inl x ↦ h x | inr y ↦ live_ends_not f y ]

-- facts of whatever session are no end
facts_end_not : {P : Type 0} (y x : ℕ) (f : List ℕ) → only y (Live f) x ≡ Ended → P
facts_end_not {P} y x f = cond_both (x == y) (Live f) Unknown (λ z. z ≡ Ended → P) (λ _ h. live_ends_not f h) (λ _ h. absurd (true≢false (sym (ap is_ended h))))

-- an end of one session is its end
end_is_of : (y x : ℕ) → only y Ended x ≡ Ended → y ≡ x
end_is_of y x = cond_both (x == y) Ended Unknown (λ z. z ≡ Ended → y ≡ x) (λ e _. sym (eqb-true x y e)) (λ _ h. absurd (true≢false (sym (ap is_ended h))))

-- the end of these is that of one of them
end_of_these : (about : ℕ → Bool) (x : ℕ) → ends_of_these about x ≡ Ended → about x ≡ true
end_of_these about x = cond_both (about x) Ended Unknown (λ z. z ≡ Ended → about x ≡ true) (λ t _. t) (λ _ h. absurd (true≢false (sym (ap is_ended h))))

-- whoever forgets others forgets nothing of the session
forgets_others : (about : ℕ → Bool) (x : ℕ) (s : Site) → about x ≡ false → (forgetful about s).kept x ≡ s.kept x
forgets_others about x s f = cond_both (about x) (forgotten (s.kept x)) (s.kept x) (λ z. z ≡ s.kept x) (λ t. absurd (both_ways (about x) f t)) (λ _. refl)

-- ended from then on
ended_now : (w : World) (y x : ℕ) → y ≡ x → (with_end_of w y).ended x ≡ true
ended_now w y x same = put_at (λ k z. k ≡ y → z ≡ true) w.ended y true x (λ _. refl) (λ ne e. absurd (ne e)) (sym same)

-- a site as it is put is there
put_there : (f : ℕ → Site) (i : ℕ) (x : Site) (P : Site → Type 0) → P x → P (put f i x i)
put_there f i x P h = put_at (λ k z. k ≡ i → P z) f i x i (λ _. h) (λ ne e. absurd (ne e)) refl

-- a mark can't stand in two ways
marks_not : (asked q : ℕ) (ms : List Message) → Each (IsNoMark asked) (Past q ∷ ms) → q ≡ asked → ⊥
marks_not asked q ms h = h.0

-- ---- a site takes a message while nobody has forgotten

module _ (sid n : ℕ) (w : World) (big : 1 < n) (y : Yet sid n w) (h : Stands sid n w) (j i : ℕ) (p : j < n) (l : i < n) (ne : i ≡ j → ⊥) (ms : List Message) where
  abbrev rest : World
  rest = with_link w j i ms

  module _ (m : Message) (at : w.link j i ≡ m ∷ ms) where
    fewer : (a c : ℕ) → Shrinks (w.link a c) (rest.link a c)
    fewer = set_shrinks w j i ms (subst (λ (z : List Message). Shrinks z ms) (sym at) (shrinks_by_first m ms))

    yet_rest : Yet sid n rest
    yet_rest = yet_less sid n w y rest.link fewer

    stands_rest : Stands sid n rest
    stands_rest = stands_less sid n w h rest.link fewer

    fit : FitsYet sid (w.ended sid) w.asked j m
    fit = (subst (Each (FitsYet sid (w.ended sid) w.asked j)) at (y.fits j i p l)).0

    -- behind a mark of a site that took the question
    behind : (took : ℕ → Bool) → Asked sid n w took → took j ≡ true → IsMark w.asked m → BringNothingLive sid (rest.link j i)
    behind took o t is = subst (BringNothingLive sid) (sym (link_there w j i ms)) ((subst (Quiet sid w.asked) at (o.quiet j i p l t)).0 is)

    -- what was so of marks is so of this one
    unmarked : Each (IsNoMark w.asked) (w.link j i) → IsNoMark w.asked m
    unmarked none = (subst (Each (IsNoMark w.asked)) at none).0

  -- more is held
  took_more : (m : Message) → w.link j i ≡ m ∷ ms → (k a : ℕ → Held) → k sid ≡ a sid → (k sid ≡ Ended → w.ended sid ≡ true) → Sound sid n (with_more rest i k a)
  took_more m at k a same over = inr (yet_holding sid n rest (yet_rest m at) i l k a same over, stands_holding sid n rest (stands_rest m at) i l k a)

  -- a mark
  took_mark : (q : ℕ) → w.link j i ≡ Past q ∷ ms → Sound sid n (with_mark rest i j q)
  took_mark q at = inr (yet_marked sid n rest (yet_rest (Past q) at) i j q l (fit (Past q) at).0, of_stand h (stands_rest (Past q) at))
    where
      not_zero : j ≡ 0 → ⊥
      not_zero = (fit (Past q) at).1

      of_stand : Stands sid n w → Stands sid n rest → Stands sid n (with_mark rest i j q)
      of_stand (inl o) r = inl (
        o.0,
        asked_marked sid n rest o.0 (asked_less sid n w o.0 o.1 rest.link (fewer (Past q) at)) i j q l
            (λ _ z. absurd (not_zero z))
            (λ z other e. unmarked (Past q) at (subst (λ (x : ℕ). Each (IsNoMark w.asked) (w.link j x)) (sym z) ((o.1).ready j p other)) e)
            (λ none e. unmarked (Past q) at ((o.1).marks j i p l none) e)
            (λ t is. behind (Past q) at o.0 o.1 t is),
        o.2,
      )
      of_stand (inr (inl none)) r = inr (inl (none_marked sid rest none i j q))
      of_stand (inr (inr f)) r = inr (inr (
        f.0,
        fell_marked sid n rest f.0 (fell_less sid n w f.0 f.1 rest.link (fewer (Past q) at)) i j q
            (λ _ z. absurd (not_zero z))
            (λ z same e. unmarked (Past q) at (subst (λ (x : ℕ). Each (IsNoMark w.asked) (w.link x i)) (sym same) (subst (λ (x : ℕ). Each (IsNoMark w.asked) (w.link f.0 x)) (sym z) (f.1).from)) e),
      ))

  -- a question
  took_asked : (q : ℕ) (about : ℕ → Bool) → w.link j i ≡ Ask q about ∷ ms → Sound sid n (with_mark (with_more rest i (ends_of_these about) (ends_of_these about)) i j q)
  took_asked q about at = of_stand h
    where
      m : Message
      m = Ask q about

      e : ℕ → Held
      e = ends_of_these about

      low : q ≤ w.asked
      low = (fit m at).0

      zero_asks : j ≡ 0
      zero_asks = (fit m at).1

      other : i ≡ 0 → ⊥
      other z = ne (z ∙ sym zero_asks)

      one : World
      one = with_more rest i e e

      yet_one : Yet sid n one
      yet_one = yet_holding sid n rest (yet_rest m at) i l e e refl (λ x. (fit m at).2 (end_of_these about sid x))

      ended_there : about sid ≡ true → (one.site i).kept sid ≡ Ended
      ended_there t = put_there w.site i (holding e e (w.site i)) (λ z. z.kept sid ≡ Ended)
          (cond_both (about sid) Ended Unknown (λ z. joined ((w.site i).kept sid) z ≡ Ended) (λ _. with_end ((w.site i).kept sid)) (λ f. absurd (both_ways (about sid) f t)))

      yet_last : Yet sid n (with_mark one i j q)
      yet_last = yet_marked sid n one yet_one i j q l low

      -- whoever of these took the last question, site i among them if it is this one
      asked_last : (took : ℕ → Bool) → Asked sid n one took → (q ≡ w.asked → took i ≡ true) → (BringNothingLive sid (rest.link j i) ⊎ (w.asked ≤ q → ⊥)) → took 0 ≡ true → Asked sid n (with_mark one i j q) took
      asked_last took o mine quiet own =
          asked_marked sid n one took o i j q l (λ x _. mine x) (λ z. absurd (other z)) (λ none x. both_ways (took 0) (subst (λ (u : ℕ). took u ≡ false) zero_asks none) own)
          (λ _ is. elim quiet [ inl dead ↦ dead | inr early ↦ absurd (early is) ])

      of_stand : Stands sid n w → Sound sid n (with_mark one i j q)
      of_stand (inl o) = elim (cases_eq q w.asked) [ inl x ↦ of_last x | inr old ↦ inr (yet_last, inl (o.0, asked_last o.0 asked_one (λ x. absurd (old x)) (inr (λ is. old (omega (arith, low, is)))) (o.1).own, o.2)) ]
        where
          asked_one : Asked sid n one o.0
          asked_one = asked_holding sid n rest o.0 (asked_less sid n w o.0 o.1 rest.link (fewer m at)) i l e e

          more : ℕ → Bool
          more = put o.0 i true

          asked_more : about sid ≡ true → Asked sid n one more
          asked_more t = asked_took sid n one o.0 yet_one asked_one i l (ended_there t)

          dead : w.asked ≤ q → BringNothingLive sid (rest.link j i)
          dead is = behind m at o.0 o.1 (subst (λ (u : ℕ). o.0 u ≡ true) (sym zero_asks) (o.1).own) is

          of_last : q ≡ w.asked → Sound sid n (with_mark one i j q)
          of_last x =
              let t : about sid ≡ true = (subst (Each (IsAbout sid w.asked)) at ((o.1).topic j i p l)).0 x in
              elim (cases_Bool (each_below n more)) [
                | inl each ↦ inl (w.asked, buried_marked sid n one w.asked (buried_now sid n one more big yet_one (asked_more t) each) j i q l dead)
                | inr still ↦ inr (yet_last, inl (more, asked_last more (asked_more t) (λ _. put_at (λ k z. k ≡ i → z ≡ true) o.0 i true i (λ _. refl) (λ y z. absurd (y z)) refl) (inl (dead (omega (arith, x)))) (asked_more t).own, still))
              ]
      of_stand (inr (inl none)) = inr (yet_last, inr (inl (none_marked sid one (none_site sid rest none i (holding e e (w.site i)) (λ z. absurd (other z))) i j q)))
      of_stand (inr (inr f)) = inr (
        yet_last,
        inr (inr (
          f.0,
          fell_marked sid n one f.0 (fell_one (fell_less sid n w f.0 f.1 rest.link (fewer m at))) i j q
              (λ same z x. unmarked m at (subst (λ (u : ℕ). Each (IsNoMark w.asked) (w.link u i)) (sym z) (subst (λ (u : ℕ). Each (IsNoMark w.asked) (w.link 0 u)) (sym same) (f.1).to)) x)
              (λ z. absurd (other z)),
        )),
      )
        where
          fell_one : Fell sid n rest f.0 → Fell sid n one f.0
          fell_one g = fell_site sid n rest f.0 g i (holding e e (w.site i))
              (λ x. subst (λ (u : ℕ). (w.site u).question ≡ w.asked → (w.site u).past 0 ≡ true → ⊥) (sym x) g.never)
              (λ z. absurd (other z))

  -- that others are to be forgotten
  took_forget : (q : ℕ) (about : ℕ → Bool) → w.link j i ≡ Forget q about ∷ ms → Sound sid n (taken n rest j i (Forget q about))
  took_forget q about at = cond_both (q == s.question && has_all_marks n i s) (with_site rest i (forgetful about s)) rest (Sound sid n)
      (λ _. inr (
        yet_site sid n rest yet i (forgetful about s) (same ∙ y.agrees i l) (λ x. y.over i l (sym same ∙ x)) (omega arith) (λ _. inl refl),
        stands_dropped sid n rest (stands_rest (Forget q about) at) i l (forgetful about s) same refl refl,
      ))
      (λ _. inr (yet, stands_rest (Forget q about) at))
    where
      s : Site
      s = w.site i

      yet : Yet sid n rest
      yet = yet_rest (Forget q about) at

      same : (forgetful about s).kept sid ≡ s.kept sid
      same = forgets_others about sid s (fit (Forget q about) at)

  took : (m : Message) → w.link j i ≡ m ∷ ms → Sound sid n (taken n rest j i m)
  took (Whole k a) at = took_more (Whole k a) at k a (fit (Whole k a) at).0 (fit (Whole k a) at).1
  took (Facts z f) at = took_more (Facts z f) at (only z (Live f)) (only z (Live f)) refl (λ e. facts_end_not z sid f e)
  took (End z) at = took_more (End z) at (only z Ended) (only z Ended) refl (λ e. fit (End z) at (end_is_of z sid e))
  took (Ask q about) at = took_asked q about at
  took (Past q) at = took_mark q at
  took (Forget q about) at = took_forget q about at

-- ---- a site begins again while nobody has forgotten

module _ (sid n : ℕ) (w : World) (big : 1 < n) (y : Yet sid n w) (i : ℕ) (l : i < n) where
  abbrev gone : World
  gone = unlinked w i

  yet_restarts : Yet sid n (with_site gone i fresh_site)
  yet_restarts = yet_site sid n gone (yet_less sid n w y gone.link (less_there w i)) i fresh_site refl (λ e. absurd (true≢false (sym (ap is_ended e)))) (omega arith) (λ _. inl refl)

  fell_again : (f : ℕ) → Fell sid n w f → Fell sid n (with_site gone i fresh_site) f
  fell_again f h = fell_site sid n gone f (fell_less sid n w f h gone.link (less_there w i)) i fresh_site (λ _ _ c. nobody_true 0 c) (λ _ _ c. nobody_true f c)

  stands_restarts : Stands sid n w → Stands sid n (with_site gone i fresh_site)
  stands_restarts (inr (inl none)) = inr (inl (none_site sid gone none i fresh_site (λ _. refl)))
  stands_restarts (inr (inr f)) = inr (inr (f.0, fell_again f.0 f.1))
  stands_restarts (inl o) = elim (cases_Bool (o.0 i)) [
    | inr out ↦ inl (o.0, asked_dropped sid n gone o.0 one i l fresh_site (λ t. absurd (both_ways (o.0 i) out t)) refl, o.2)
    | inl was_in ↦ elim (cases_eq i 0) [
      | inl zero_is ↦ inr (inl (put_at (λ k z. k ≡ i → z.about sid ≡ false) w.site i fresh_site 0 (λ _. refl) (λ x z. absurd (x z)) (sym zero_is)))
      | inr member ↦ inr (inr (
        i,
        record {
          some = (o.1).some;
          member = member;
          there = l;
          to = subst (Each (IsNoMark w.asked)) (sym (none_there w i 0)) tt;
          from = (less_there w i i 0).each (IsNoMark w.asked) ((o.1).ready i l member);
          never = λ _ c. nobody_true 0 (subst (λ (s : Site). s.past 0 ≡ true) fresh c);
          unsaid = put_at (λ k z. k ≡ 0 → z.question ≡ w.asked → z.past i ≡ true → ⊥) w.site i fresh_site 0 (λ z. absurd (member z)) (λ _ _. (o.1).said i l member) refl;
        },
      ))
    ]
  ]
    where
      one : Asked sid n gone o.0
      one = asked_less sid n w o.0 o.1 gone.link (less_there w i)

      fresh : put w.site i fresh_site i ≡ fresh_site
      fresh = put_at (λ k z. k ≡ i → z ≡ fresh_site) w.site i fresh_site i (λ _. refl) (λ x e. absurd (x e)) refl

-- ---- each event

-- no question about the session can be decided
decides_others : (sid n : ℕ) (w : World) → 1 < n → Yet sid n w → Stands sid n w → has_all_marks n 0 (w.site 0) ≡ true → (w.site 0).about sid ≡ false
decides_others sid n w big y h marks =
    let asks = (mark_of n 0 (w.site 0) 1 marks big (λ z. omega (arith, z))).0 in
    of_stand (elim y.top [ inl none ↦ omega (arith, none, asks) | inr last ↦ last ]) h
  where
    of_stand : (w.site 0).question ≡ w.asked → Stands sid n w → (w.site 0).about sid ≡ false
    of_stand last (inl o) = absurd ((o.1).said 1 big (λ z. omega (arith, z)) last (mark_of n 0 (w.site 0) 1 marks big (λ z. omega (arith, z))).1)
    of_stand last (inr (inl none)) = none
    of_stand last (inr (inr f)) = absurd ((f.1).unsaid last (mark_of n 0 (w.site 0) f.0 marks (f.1).there (λ z. (f.1).member (sym z))).1)

-- a site that has all marks says so
stands_answers : (sid n : ℕ) (w : World) → 1 < n → Stands sid n w → (i : ℕ) → i < n → (i ≡ 0 → ⊥) → has_all_marks n i (w.site i) ≡ true → Stands sid n (sent w i (λ k. k == 0) (Past (w.site i).question))
stands_answers sid n w big h i l other marks = of_stand h
  where
    zero_in : 0 < n
    zero_in = omega (arith, big)

    asker : (w.site i).past 0 ≡ true
    asker = (mark_of n i (w.site i) 0 marks zero_in other).1

    of_stand : Stands sid n w → Stands sid n (sent w i (λ k. k == 0) (Past (w.site i).question))
    of_stand (inr (inl none)) = inr (inl none)
    of_stand (inr (inr f)) = inr (inr (
      f.0,
      fell_sent sid n w f.0 f.1 i (λ k. k == 0) (Past (w.site i).question) (λ z. absurd (other z))
          (λ same _ e. (f.1).never (subst (λ (x : ℕ). (w.site x).question ≡ w.asked) same e) (subst (λ (x : ℕ). (w.site x).past 0 ≡ true) same asker)),
    ))
    of_stand (inl o) = inl (
      o.0,
      asked_sent sid n w o.0 o.1 i (λ k. k == 0) (Past (w.site i).question) (λ _. tt)
          (λ none e. both_ways (o.0 i) none ((o.1).mine i l e asker))
          (λ _ _ e. both_ways (each_below n o.0) o.2 (all_below n o.0 (λ k q. elim (cases_eq i k) [
            | inl same ↦ subst (λ (x : ℕ). o.0 x ≡ true) same ((o.1).mine i l e asker)
            | inr ne ↦ true_from_ne_false (o.0 k) (λ none. (o.1).known k i q l none e (mark_of n i (w.site i) k marks q ne).1)
          ]))) tt,
      o.2,
    )

-- a site that took a question marks a link to another member
stands_marks : (sid n : ℕ) (w : World) → Stands sid n w → (i k : ℕ) → i < n → (i ≡ 0 → ⊥) → (w.site i).past 0 ≡ true → Stands sid n (sent w i (λ p. p == k && not (p == 0)) (Past (w.site i).question))
stands_marks sid n w h i k l other asker = of_stand h
  where
    not_to_zero : {P : Type 0} → ((0 == k) && not (0 == 0)) ≡ true → P
    not_to_zero t = absurd (true≢false (sym (and_parts (0 == k) false t).1))

    of_stand : Stands sid n w → Stands sid n (sent w i (λ p. p == k && not (p == 0)) (Past (w.site i).question))
    of_stand (inr (inl none)) = inr (inl none)
    of_stand (inr (inr f)) = inr (inr (f.0, fell_sent sid n w f.0 f.1 i (λ p. p == k && not (p == 0)) (Past (w.site i).question) (λ z. absurd (other z)) (λ _ t. not_to_zero t)))
    of_stand (inl o) = inl (
      o.0,
      asked_sent sid n w o.0 o.1 i (λ p. p == k && not (p == 0)) (Past (w.site i).question) (λ _. tt)
          (λ none e. both_ways (o.0 i) none ((o.1).mine i l e asker)) (λ _ t. not_to_zero t) tt,
      o.2,
    )

-- what is the first in flight is taken
takes_first : (sid n : ℕ) (w : World) → 1 < n → Yet sid n w → Stands sid n w → (j i : ℕ) → j < n → i < n → (i ≡ j → ⊥) → (ms : List Message) → w.link j i ≡ ms → Sound sid n (first_taken n w j i ms)
takes_first sid n w big y h j i p l ne [] at = inr (y, h)
takes_first sid n w big y h j i p l ne (m ∷ ms) at = took sid n w big y h j i p l ne ms m at

-- a question is asked
yet_asks : (sid n : ℕ) (w : World) (q : ℕ) (these : ℕ → Bool) → w.asked < q → 1 < n → Yet sid n w → Sound sid n (sent (asking w q (those_ended (w.site 0) these)) 0 (others 0) (Ask q (those_ended (w.site 0) these)))
yet_asks sid n w q these above big y = elim (cases_Bool (about sid)) [
  | inl is ↦ let o = new.1 is in
      inr (asked, inl ((λ k. k == 0), asked_sent sid n (asking w q about) (λ k. k == 0) o.0 0 (others 0) (Ask q about) (λ _. tt) (λ none. absurd (true≢false none)) (λ x. absurd (x refl)) (λ _. is), o.1))
  | inr not_so ↦ inr (asked, inr (inl not_so))
]
  where
    about : ℕ → Bool
    about = those_ended (w.site 0) these

    zero_in : 0 < n
    zero_in = omega (arith, big)

    ended : about sid ≡ true → (w.site 0).kept sid ≡ Ended
    ended t = is_the_end ((w.site 0).kept sid) (and_parts (these sid) (is_ended ((w.site 0).kept sid)) t).1

    new : Yet sid n (asking w q about) × (about sid ≡ true → Asked sid n (asking w q about) (λ k. k == 0) × (each_below n (λ k. k == 0) ≡ false))
    new = asks_anew sid n w q about above big y ended

    asked : Yet sid n (sent (asking w q about) 0 (others 0) (Ask q about))
    asked = yet_sent sid n (asking w q about) new.0 0 (others 0) (Ask q about) (omega arith, refl, λ t. y.over 0 zero_in (ended t))

yet_happens : (sid n : ℕ) (w : World) → 1 < n → Yet sid n w → Stands sid n w → (e : Event) → Sound sid n (happens n w e)
yet_happens sid n w big y h (Operates i z f) = cond_both _ _ w (Sound sid n)
    (λ e.
    let g = and_parts _ (may_operate (w.ended z) ((w.site i).kept z)) e in
    let l = ltb-true i n g.0 in
    let k : ℕ → Held = only z (Live f) in
    let v : World = with_more w i k k in
    inr (
      yet_sent sid n v (yet_holding sid n w y i l k k refl (λ x. facts_end_not z sid f x)) i (others i) (Facts z f) tt,
      stands_sent sid n v (stands_holding sid n w h i l k k) i l (others i) (Facts z f) (λ _. (tt, tt))
          (elim (cases_eq z sid) [
            | inl same ↦ put_there w.site i (holding k k (w.site i)) (λ x. x.kept sid ≡ Ended → is_live (only z (Live f) sid) ≡ false)
                (λ x. absurd (operates_unended (w.ended sid) ((w.site i).kept sid) (subst (λ (u : ℕ). may_operate (w.ended u) ((w.site i).kept u) ≡ true) same g.1)
                (elim (ends_of ((w.site i).kept sid) (k sid) x) [ inl old ↦ old | inr new ↦ facts_end_not z sid f new ])))
            | inr ne ↦ λ _. no_life_elsewhere z sid (Live f) ne
          ]),
    ))
    (λ _. inr (y, h))
yet_happens sid n w big y h (Ends i z) = cond_both _ _ w (Sound sid n)
    (λ e.
    let g = and_parts _ (is_live ((w.site i).kept z)) e in
    let l = ltb-true i n g.0 in
    let k : ℕ → Held = only z Ended in
    let u : World = with_end_of w z in
    let v : World = with_more u i k k in
    inr (
      yet_sent sid n v (yet_holding sid n u (yet_ended sid n w y z) i l k k refl (λ x. ended_now w z sid (end_is_of z sid x))) i (others i) (End z) (λ x. ended_now w z sid x),
      stands_sent sid n v (stands_holding sid n u (stands_ended sid n w h z) i l k k) i l (others i) (End z) (λ _. (tt, tt)) (λ _. tt),
    ))
    (λ _. inr (y, h))
yet_happens sid n w big y h (Writes j i) = cond_both _ _ w (Sound sid n)
    (λ e.
    let l = ltb-true j n e in
    let s : Site = w.site j in
    inr (yet_sent sid n w y j (λ k. k == i) (Whole s.kept s.all) (y.agrees j l, y.over j l), stands_sent sid n w h j l (λ k. k == i) (Whole s.kept s.all) (λ _. (tt, tt)) (λ x. ap is_live x)))
    (λ _. inr (y, h))
yet_happens sid n w big y h (Tells j i z) = cond_both _ _ w (Sound sid n)
    (λ e.
    let g = and_parts _ (is_ended ((w.site j).kept z)) e in
    let l = ltb-true j n g.0 in
    inr (
      yet_sent sid n w y j (λ k. k == i) (End z) (λ same. y.over j l (subst (λ (u : ℕ). (w.site j).kept u ≡ Ended) same (is_the_end ((w.site j).kept z) g.1))),
      stands_sent sid n w h j l (λ k. k == i) (End z) (λ _. (tt, tt)) (λ _. tt),
    ))
    (λ _. inr (y, h))
yet_happens sid n w big y h (Asks q these) = cond_both _ _ w (Sound sid n) (λ e. yet_asks sid n w q these (ltb-true w.asked q e) big y) (λ _. inr (y, h))
yet_happens sid n w big y h (Answers i) = cond_both _ _ w (Sound sid n)
    (λ e.
    let g = three (nat_lt i n) (not (i == 0)) (has_all_marks n i (w.site i)) e in
    let l = ltb-true i n g.0 in
    let other = eqb-false i 0 (not-true (i == 0) g.1) in
    inr (yet_sent sid n w y i (λ k. k == 0) (Past (w.site i).question) (y.low i l, other), stands_answers sid n w big h i l other g.2))
    (λ _. inr (y, h))
yet_happens sid n w big y h (Marks j k) = cond_both _ _ w (Sound sid n)
    (λ e.
    let g = three (nat_lt j n) (not (j == 0)) (took_question (w.site j)) e in
    let l = ltb-true j n g.0 in
    let other = eqb-false j 0 (not-true (j == 0) g.1) in
    inr (yet_sent sid n w y j (λ p. p == k && not (p == 0)) (Past (w.site j).question) (y.low j l, other), stands_marks sid n w h j k l other (and_parts _ ((w.site j).past 0) g.2).1))
    (λ _. inr (y, h))
yet_happens sid n w big y h (Releases k) = cond_both _ _ w (Sound sid n)
    (λ e.
    let s : Site = w.site 0 in
    inr (
      yet_sent sid n w y 0 (λ p. p == k) (Forget s.question s.about) (decides_others sid n w big y h e),
      stands_sent sid n w h 0 (omega (arith, big)) (λ p. p == k) (Forget s.question s.about) (λ _. (tt, tt)) (λ _. tt),
    ))
    (λ _. inr (y, h))
yet_happens sid n w big y h Forgets = cond_both _ _ w (Sound sid n)
    (λ e.
    let s : Site = w.site 0 in
    let zero_in : 0 < n = omega (arith, big) in
    let same = forgets_others s.about sid s (decides_others sid n w big y h e) in
    inr (
      yet_site sid n w y 0 (forgetful s.about s) (same ∙ y.agrees 0 zero_in) (λ x. y.over 0 zero_in (sym same ∙ x)) (omega arith) (λ _. inl refl),
      stands_dropped sid n w h 0 zero_in (forgetful s.about s) same refl refl,
    ))
    (λ _. inr (y, h))
yet_happens sid n w big y h (Drops i) = cond_both _ _ w (Sound sid n)
    (λ e.
    let l = ltb-true i n e in
    inr (yet_site sid n w y i (without_question (w.site i)) (y.agrees i l) (y.over i l) (omega arith) (λ _. inl refl), stands_dropped sid n w h i l (without_question (w.site i)) refl refl refl))
    (λ _. inr (y, h))
yet_happens sid n w big y h (Takes j i) = cond_both _ _ w (Sound sid n)
    (λ e.
    let g = three (nat_lt j n) (nat_lt i n) (not (i == j)) e in
    takes_first sid n w big y h j i (ltb-true j n g.0) (ltb-true i n g.1) (eqb-false i j (not-true (i == j) g.2)) (w.link j i) refl)
    (λ _. inr (y, h))
yet_happens sid n w big y h (Cuts j i k) =
    let less = set_shrinks w j i (first k (w.link j i)) (shrinks_to_first k (w.link j i)) in
    let v : World = with_link w j i (first k (w.link j i)) in
    inr (yet_less sid n w y v.link less, stands_less sid n w h v.link less)
yet_happens sid n w big y h (Restarts i) = cond_both _ _ w (Sound sid n)
    (λ e. let l = ltb-true i n e in inr (yet_restarts sid n w big y i l, stands_restarts sid n w big y i l h))
    (λ _. inr (y, h))

sound_happens : (sid n : ℕ) (w : World) → 1 < n → Sound sid n w → (e : Event) → Sound sid n (happens n w e)
sound_happens sid n w big (inl b) e = inl (b.0, buried_happens sid n w b.0 big b.1 e)
sound_happens sid n w big (inr x) e = yet_happens sid n w big x.0 x.1 e

sound_after : (sid n : ℕ) (w : World) → 1 < n → Sound sid n w → (es : List Event) → Sound sid n (after_all n w es)
sound_after sid n w big h [] = h
sound_after sid n w big h (e ∷ es) = sound_after sid n (happens n w e) big (sound_happens sid n w big h e) es

sound_start : (sid n : ℕ) → Sound sid n start
sound_start sid n = inr (record { agrees = λ i l. refl; over = λ i l e. absurd (true≢false (sym (ap is_ended e))); low = λ i l. omega arith; top = inl refl; fits = λ j i p l. tt }, inr (inl refl))

-- after any events
pub sound : (sid n : ℕ) → 1 < n → (es : List Event) → Sound sid n (after_all n start es)
sound sid n big es = sound_after sid n start big (sound_start sid n) es
