-- The laws, of what stays true.
use Rattle.std.proofs.Common.{◌≡◌, ℕ, ◌+◌, ◌<◌, true, false, Bool, cond, not, ◌&&◌, ◌==◌, List, [], ◌∷◌, ◌++◌, inl, inr, nat_lt, refl, sym, ap, ◌∙◌, subst}
use Rattle.std.proofs.lemmas.Bool.{true≢false}
use Rattle.ended_questions.specs.Held.{Held, Unknown, Live, Ended, is_live, is_ended}
use Rattle.ended_questions.specs.Forgetting.{Message, Whole, Facts, End, Ask, Past, Forget, Site, World, Event, Operates, Ends, Writes, Tells, Asks, Marks, Answers, Releases, Forgets, Drops, Takes, Cuts, Restarts, nobody, only, ends_of_these, those_ended, with_end_of, asking, fresh_site, holding, marked, without_question, forgetful, has_all_marks, took_question, may_operate, with_site, sent, with_link, with_more, with_mark, unlinked, others, taken, first_taken, happens, after_all, start}
use Rattle.ended_questions.specs.Laws.{Agrees, ActsAlike, StaysUp, IsBuried, ForgettingChangesEndsAlone, ForgettingChangesNoDeed, EndedIsNeverLive, WhatIsForgottenIsBuried}
use Rattle.ended_questions.proofs.Queues.{put_at, marked_is}
use Rattle.ended_questions.proofs.Buried.{ended_stays}
use Rattle.ended_questions.proofs.Steps.{Sound, sound}

-- at each site of a sound world
agrees_there : (sid n : ℕ) (w : World) → Sound sid n w → (i : ℕ) → i < n → Agrees ((w.site i).kept sid) ((w.site i).all sid)
agrees_there sid n w (inl b) i l = (b.1).agrees i l
agrees_there sid n w (inr y) i l = inl ((y.0).agrees i l)

pub changes_ends_alone : ForgettingChangesEndsAlone
changes_ends_alone n big es i sid l = agrees_there sid n (after_all n start es) (sound sid n big es) i l

pub buried_there : WhatIsForgottenIsBuried
buried_there n big es i sid l unknown ended = of_sound (sound sid n big es)
  where
    w : World
    w = after_all n start es

    of_sound : Sound sid n w → IsBuried n w sid
    of_sound (inl b) = record { sites = (b.1).dead; links = (b.1).calm }
    of_sound (inr y) = absurd (true≢false (sym (ap is_ended (sym unknown ∙ ((y.0).agrees i l ∙ ended)))))

-- ---- who would hold the end goes on to do so

-- the site would hold the session's end
abbrev Ends_at : ℕ → ℕ → World → Type 0
Ends_at sid i w = (w.site i).all sid ≡ Ended

-- in either world
either_stays : (sid i : ℕ) (t : Bool) (v w : World) → Ends_at sid i v → Ends_at sid i w → Ends_at sid i (cond t v w)
either_stays sid i true v w g h = g
either_stays sid i false v w g h = h

-- whatever changes at a site, if the end stays there
site_stays : (sid : ℕ) (w : World) (i k : ℕ) (s : Site) → Ends_at sid i w → (i ≡ k → s.all sid ≡ Ended) → Ends_at sid i (with_site w k s)
site_stays sid w i k s h there = put_at (λ x z. x ≡ i → z.all sid ≡ Ended) w.site k s i (λ e. there (sym e)) (λ _ _. h) refl

more_stays : (sid : ℕ) (w : World) (i k : ℕ) (x a : ℕ → Held) → Ends_at sid i w → Ends_at sid i (with_more w k x a)
more_stays sid w i k x a h = site_stays sid w i k (holding x a (w.site k)) h (λ e. ended_stays ((w.site k).all sid) (a sid) (subst (λ (z : ℕ). (w.site z).all sid ≡ Ended) e h))

mark_stays : (sid : ℕ) (w : World) (i k j q : ℕ) → Ends_at sid i w → Ends_at sid i (with_mark w k j q)
mark_stays sid w i k j q h = site_stays sid w i k (marked k j q (w.site k)) h
    (λ e. let was = subst (λ (z : ℕ). (w.site z).all sid ≡ Ended) e h in marked_is (λ z. z.all sid ≡ Ended) k j q (w.site k) (λ _. was) (λ _ _. was) was)

same_stays : (sid : ℕ) (w : World) (i k : ℕ) (s : Site) → Ends_at sid i w → s.all sid ≡ (w.site k).all sid → Ends_at sid i (with_site w k s)
same_stays sid w i k s h same = site_stays sid w i k s h (λ e. same ∙ subst (λ (z : ℕ). (w.site z).all sid ≡ Ended) e h)

took_stays : (sid n : ℕ) (w : World) (i j k : ℕ) (m : Message) → Ends_at sid i w → Ends_at sid i (taken n w j k m)
took_stays sid n w i j k (Whole x a) h = more_stays sid w i k x a h
took_stays sid n w i j k (Facts y f) h = more_stays sid w i k (only y (Live f)) (only y (Live f)) h
took_stays sid n w i j k (End y) h = more_stays sid w i k (only y Ended) (only y Ended) h
took_stays sid n w i j k (Ask q about) h = mark_stays sid (with_more w k (ends_of_these about) (ends_of_these about)) i k j q (more_stays sid w i k (ends_of_these about) (ends_of_these about) h)
took_stays sid n w i j k (Past q) h = mark_stays sid w i k j q h
took_stays sid n w i j k (Forget q about) h =
    either_stays sid i (q == (w.site k).question && has_all_marks n k (w.site k)) (with_site w k (forgetful about (w.site k))) w (same_stays sid w i k (forgetful about (w.site k)) h refl) h

first_stays : (sid n : ℕ) (w : World) (i j k : ℕ) (ms : List Message) → Ends_at sid i w → Ends_at sid i (first_taken n w j k ms)
first_stays sid n w i j k [] h = h
first_stays sid n w i j k (m ∷ ms) h = took_stays sid n (with_link w j k ms) i j k m h

event_stays : (sid n : ℕ) (w : World) (i : ℕ) (e : Event) → (e ≡ Restarts i → ⊥) → Ends_at sid i w → Ends_at sid i (happens n w e)
event_stays sid n w i (Operates k y f) up h =
    let v : World = with_more w k (only y (Live f)) (only y (Live f)) in
    either_stays sid i (nat_lt k n && may_operate (w.ended y) ((w.site k).kept y)) (sent v k (others k) (Facts y f)) w (more_stays sid w i k (only y (Live f)) (only y (Live f)) h) h
event_stays sid n w i (Ends k y) up h =
    let u : World = with_end_of w y in
    either_stays sid i (nat_lt k n && is_live ((w.site k).kept y)) (sent (with_more u k (only y Ended) (only y Ended)) k (others k) (End y)) w (more_stays sid u i k (only y Ended) (only y Ended) h) h
event_stays sid n w i (Writes j k) up h = either_stays sid i (nat_lt j n) (sent w j (λ x. x == k) (Whole (w.site j).kept (w.site j).all)) w h h
event_stays sid n w i (Tells j k y) up h = either_stays sid i (nat_lt j n && is_ended ((w.site j).kept y)) (sent w j (λ x. x == k) (End y)) w h h
event_stays sid n w i (Asks q these) up h =
    let about : ℕ → Bool = those_ended (w.site 0) these in
    let u : World = record { site = w.site; link = w.link; asked = q; ended = w.ended } in
    either_stays sid i (nat_lt w.asked q) (sent (asking w q about) 0 (others 0) (Ask q about)) w
    (same_stays sid u i 0 (record { kept = (w.site 0).kept; all = (w.site 0).all; question = q; about = about; past = nobody }) h refl) h
event_stays sid n w i (Answers k) up h =
    either_stays sid i (nat_lt k n && not (k == 0) && has_all_marks n k (w.site k)) (sent w k (λ x. x == 0) (Past (w.site k).question)) w h h
event_stays sid n w i (Marks j k) up h =
    either_stays sid i (nat_lt j n && not (j == 0) && took_question (w.site j)) (sent w j (λ p. p == k && not (p == 0)) (Past (w.site j).question)) w h h
event_stays sid n w i (Releases k) up h = either_stays sid i (has_all_marks n 0 (w.site 0)) (sent w 0 (λ p. p == k) (Forget (w.site 0).question (w.site 0).about)) w h h
event_stays sid n w i Forgets up h =
    either_stays sid i (has_all_marks n 0 (w.site 0)) (with_site w 0 (forgetful (w.site 0).about (w.site 0))) w (same_stays sid w i 0 (forgetful (w.site 0).about (w.site 0)) h refl) h
event_stays sid n w i (Drops k) up h = either_stays sid i (nat_lt k n) (with_site w k (without_question (w.site k))) w (same_stays sid w i k (without_question (w.site k)) h refl) h
event_stays sid n w i (Takes j k) up h = either_stays sid i (nat_lt j n && nat_lt k n && not (k == j)) (first_taken n w j k (w.link j k)) w (first_stays sid n w i j k (w.link j k) h) h
event_stays sid n w i (Cuts j k m) up h = h
event_stays sid n w i (Restarts k) up h =
    either_stays sid i (nat_lt k n) (with_site (unlinked w k) k fresh_site) w (site_stays sid (unlinked w k) i k fresh_site h (λ e. absurd (up (ap Restarts (sym e))))) h

all_stay : (sid n : ℕ) (w : World) (i : ℕ) (es : List Event) → StaysUp i es → Ends_at sid i w → Ends_at sid i (after_all n w es)
all_stay sid n w i [] up h = h
all_stay sid n w i (e ∷ es) up h = all_stay sid n (happens n w e) i es up.1 (event_stays sid n w i e up.0 h)

-- events and further ones are all of them
after_both : (n : ℕ) (w : World) (es more : List Event) → after_all n w (es ++ more) ≡ after_all n (after_all n w es) more
after_both n w [] more = refl
after_both n w (e ∷ es) more = after_both n (happens n w e) es more

-- who holds the end would hold it
would : (x y : Held) → Agrees x y → x ≡ Ended → y ≡ Ended
would x y (inl h) e = sym h ∙ e
would x y (inr h) e = h.1

-- who would hold the end shows nothing live
not_live : (x y : Held) → Agrees x y → y ≡ Ended → is_live x ≡ false
not_live x y (inl h) e = ap is_live (h ∙ e)
not_live x y (inr h) e = ap is_live h.0

pub never_live : EndedIsNeverLive
never_live n big es more i sid l ended up =
    let w : World = after_all n start es in
    let v : World = after_all n start (es ++ more) in
    let agrees : Agrees ((v.site i).kept sid) ((v.site i).all sid) = changes_ends_alone n big (es ++ more) i sid l in
    not_live ((v.site i).kept sid) ((v.site i).all sid) agrees (subst (λ (z : World). (z.site i).all sid ≡ Ended) (sym (after_both n start es more))
    (all_stay sid n w i more up (would ((w.site i).kept sid) ((w.site i).all sid) (changes_ends_alone n big es i sid l) ended)))

-- who agrees does alike, where the end is known to be one
alike : (sid : ℕ) (w : World) (s : Site) → Agrees (s.kept sid) (s.all sid) → (s.kept sid ≡ Unknown → s.all sid ≡ Ended → w.ended sid ≡ true) → ActsAlike w s sid
alike sid w s (inl h) over = record { lives = ap is_live h; operates = ap (may_operate (w.ended sid)) h }
alike sid w s (inr h) over = record {
  lives = ap is_live h.0 ∙ sym (ap is_live h.1);
  operates = ap (may_operate (w.ended sid)) h.0 ∙ (ap not (over h.0 h.1) ∙ sym (ap (may_operate (w.ended sid)) h.1));
}

pub no_deed : ForgettingChangesNoDeed
no_deed n big es i sid l = of_sound (sound sid n big es)
  where
    w : World
    w = after_all n start es

    of_sound : Sound sid n w → ActsAlike w (w.site i) sid
    of_sound (inl b) = alike sid w (w.site i) ((b.1).agrees i l) (λ _ _. (b.1).over)
    of_sound (inr y) = alike sid w (w.site i) (inl ((y.0).agrees i l)) (λ none ended. absurd (true≢false (sym (ap is_ended (sym none ∙ ((y.0).agrees i l ∙ ended))))))
