-- While nobody has forgotten: what is so of every site and of all that is in flight, and of a question that is open.
use Rattle.std.proofs.Common.{◌≡◌, ℕ, ◌≤◌, ◌<◌, true, false, Bool, List, ◌⊎◌, inl, inr, refl, sym, ap, ◌∙◌, subst}
use Rattle.std.proofs.lemmas.Bool.{true≢false}
use Rattle.ended_questions.specs.Held.{Held, Unknown, Live, Ended, joined, is_ended}
use Rattle.ended_questions.specs.Forgetting.{Message, Whole, Facts, End, Ask, Past, Forget, Site, World, nobody, with_end_of, holding, put, with_site, sent, with_more, with_mark}
use Rattle.ended_questions.specs.Laws.{BringNothingLive}
use Rattle.ended_questions.proofs.Queues.{Each, IsNoMark, Quiet, each_last, each_weaker, Shrinks, put_at, marked_is, sent_is}

-- what a message in flight from site j says, where so many questions were asked
abbrev pub FitsYet : ℕ → Bool → ℕ → ℕ → Message → Type 0
FitsYet sid ended asked j (Whole k a) = (k sid ≡ a sid) × (k sid ≡ Ended → ended ≡ true)
FitsYet sid ended asked j (Facts y f) = Unit {0}
FitsYet sid ended asked j (End y) = y ≡ sid → ended ≡ true
FitsYet sid ended asked j (Ask q about) = (q ≤ asked) × (j ≡ 0) × (about sid ≡ true → ended ≡ true)
FitsYet sid ended asked j (Past q) = (q ≤ asked) × (j ≡ 0 → ⊥)
FitsYet sid ended asked j (Forget q about) = about sid ≡ false

-- a question of this number is about the session
abbrev pub IsAbout : ℕ → ℕ → Message → Type 0
IsAbout sid asked (Ask q about) = q ≡ asked → about sid ≡ true
IsAbout sid asked (Whole k a) = Unit {0}
IsAbout sid asked (Facts y f) = Unit {0}
IsAbout sid asked (End y) = Unit {0}
IsAbout sid asked (Past q) = Unit {0}
IsAbout sid asked (Forget q about) = Unit {0}

-- Nobody has forgotten.
pub record Yet (sid n : ℕ) (w : World) : Type 0 where
  pub agrees : (i : ℕ) → i < n → (w.site i).kept sid ≡ (w.site i).all sid
  pub over : (i : ℕ) → i < n → (w.site i).kept sid ≡ Ended → w.ended sid ≡ true
  pub low : (i : ℕ) → i < n → (w.site i).question ≤ w.asked
  pub top : ((w.site 0).question ≡ 0) ⊎ ((w.site 0).question ≡ w.asked)
  pub fits : (j i : ℕ) → j < n → i < n → Each (FitsYet sid (w.ended sid) w.asked j) (w.link j i)

-- The last question is open: these sites took it, in the life in which they are. They hold the end, tell nothing live behind their marks, and nobody
-- else has marked.
pub record Asked (sid n : ℕ) (w : World) (took : ℕ → Bool) : Type 0 where
  pub some : 0 < w.asked
  pub own : took 0 ≡ true
  pub held : (i : ℕ) → i < n → took i ≡ true → (w.site i).kept sid ≡ Ended
  pub mine : (i : ℕ) → i < n → (w.site i).question ≡ w.asked → (w.site i).past 0 ≡ true → took i ≡ true
  pub said : (j : ℕ) → j < n → (j ≡ 0 → ⊥) → (w.site 0).question ≡ w.asked → (w.site 0).past j ≡ true → ⊥
  pub known : (j i : ℕ) → j < n → i < n → took j ≡ false → (w.site i).question ≡ w.asked → (w.site i).past j ≡ true → ⊥
  pub heard : (j i : ℕ) → j < n → i < n → (i ≡ j → ⊥) → took j ≡ true → w.asked ≤ (w.site i).question → (w.site i).past j ≡ true → BringNothingLive sid (w.link j i)
  pub quiet : (j i : ℕ) → j < n → i < n → took j ≡ true → Quiet sid w.asked (w.link j i)
  pub marks : (j i : ℕ) → j < n → i < n → took j ≡ false → Each (IsNoMark w.asked) (w.link j i)
  pub ready : (j : ℕ) → j < n → (j ≡ 0 → ⊥) → Each (IsNoMark w.asked) (w.link j 0)
  pub topic : (j i : ℕ) → j < n → i < n → Each (IsAbout sid w.asked) (w.link j i)

-- ---- joins

-- the end comes of an end
pub ends_of : (x k : Held) → joined x k ≡ Ended → (x ≡ Ended) ⊎ (k ≡ Ended)
ends_of Ended k h = inl refl
ends_of (Live f) Ended h = inr refl
ends_of (Live f) (Live g) h = absurd (true≢false (sym (ap is_ended h)))
ends_of (Live f) Unknown h = absurd (true≢false (sym (ap is_ended h)))
ends_of Unknown k h = inr h

-- and so does the end of what is joined to it
pub with_end : (x : Held) → joined x Ended ≡ Ended
with_end Ended = refl
with_end (Live f) = refl
with_end Unknown = refl

-- ---- nobody has forgotten

pub yet_site : (sid n : ℕ) (w : World) → Yet sid n w → (i : ℕ) (s : Site) → s.kept sid ≡ s.all sid → (s.kept sid ≡ Ended → w.ended sid ≡ true) → s.question ≤ w.asked
    → (i ≡ 0 → (s.question ≡ 0) ⊎ (s.question ≡ w.asked)) → Yet sid n (with_site w i s)
yet_site sid n w h i s agrees over low top = record {
  agrees = λ k l. put_at (λ k z. z.kept sid ≡ z.all sid) w.site i s k agrees (λ _. h.agrees k l);
  over = λ k l. put_at (λ k z. z.kept sid ≡ Ended → w.ended sid ≡ true) w.site i s k over (λ _. h.over k l);
  low = λ k l. put_at (λ k z. z.question ≤ w.asked) w.site i s k low (λ _. h.low k l);
  top = put_at (λ k z. k ≡ 0 → (z.question ≡ 0) ⊎ (z.question ≡ w.asked)) w.site i s 0 top (λ _ _. h.top) refl;
  fits = h.fits;
}

pub yet_sent : (sid n : ℕ) (w : World) → Yet sid n w → (i : ℕ) (to : ℕ → Bool) (m : Message) → FitsYet sid (w.ended sid) w.asked i m → Yet sid n (sent w i to m)
yet_sent sid n w h i to m fit = record {
  agrees = h.agrees;
  over = h.over;
  low = h.low;
  top = h.top;
  fits = λ j k p q. sent_is (Each (FitsYet sid (w.ended sid) w.asked j)) w i to m j k (h.fits j k p q)
      (λ e _. each_last (FitsYet sid (w.ended sid) w.asked j) (w.link j k) m (h.fits j k p q) (subst (λ (x : ℕ). FitsYet sid (w.ended sid) w.asked x m) (sym e) fit));
}

pub yet_less : (sid n : ℕ) (w : World) → Yet sid n w → (link : ℕ → ℕ → List Message) → ((j i : ℕ) → Shrinks (w.link j i) (link j i))
    → Yet sid n (record { site = w.site; link = link; asked = w.asked; ended = w.ended })
yet_less sid n w h link less = record { agrees = h.agrees; over = h.over; low = h.low; top = h.top; fits = λ j k p q. (less j k).each (FitsYet sid (w.ended sid) w.asked j) (h.fits j k p q) }

-- some site ended a session
pub yet_ended : (sid n : ℕ) (w : World) → Yet sid n w → (y : ℕ) → Yet sid n (with_end_of w y)
yet_ended sid n w h y = record {
  agrees = h.agrees;
  over = λ i l e. still_true (h.over i l e);
  low = h.low;
  top = h.top;
  fits = λ j k p q. each_weaker (FitsYet sid (w.ended sid) w.asked j) (FitsYet sid (put w.ended y true sid) w.asked j) (still j) (w.link j k) (h.fits j k p q);
}
  where
    still_true : w.ended sid ≡ true → put w.ended y true sid ≡ true
    still_true e = put_at (λ k z. z ≡ true) w.ended y true sid refl (λ _. e)

    still : (j : ℕ) (m : Message) → FitsYet sid (w.ended sid) w.asked j m → FitsYet sid (put w.ended y true sid) w.asked j m
    still j (Whole k a) f = (f.0, λ e. still_true (f.1 e))
    still j (Facts x f) g = tt
    still j (End x) f = λ e. still_true (f e)
    still j (Ask q about) f = (f.0, f.1, λ e. still_true (f.2 e))
    still j (Past q) f = f
    still j (Forget q about) f = f

pub yet_holding : (sid n : ℕ) (w : World) → Yet sid n w → (i : ℕ) → i < n → (k a : ℕ → Held) → k sid ≡ a sid → (k sid ≡ Ended → w.ended sid ≡ true) → Yet sid n (with_more w i k a)
yet_holding sid n w h i l k a same over =
    let s : Site = w.site i in
    yet_site sid n w h i (holding k a s) (ap (λ (z : Held). joined z (k sid)) (h.agrees i l) ∙ ap (λ (z : Held). joined (s.all sid) z) same)
    (λ e. elim (ends_of (s.kept sid) (k sid) e) [ inl x ↦ h.over i l x | inr y ↦ over y ])
    (h.low i l) (λ e. subst (λ (z : ℕ). ((w.site z).question ≡ 0) ⊎ ((w.site z).question ≡ w.asked)) (sym e) h.top)

pub yet_marked : (sid n : ℕ) (w : World) → Yet sid n w → (i j q : ℕ) → i < n → q ≤ w.asked → Yet sid n (with_mark w i j q)
yet_marked sid n w h i j q l low =
    let s : Site = w.site i in
    let top = λ (z : i ≡ 0). subst (λ (x : ℕ). ((w.site x).question ≡ 0) ⊎ ((w.site x).question ≡ w.asked)) (sym z) h.top in
    marked_is (λ z. Yet sid n (with_site w i z)) i j q s
    (λ e. yet_site sid n w h i (record { kept = s.kept; all = s.all; question = q; about = s.about; past = put s.past j true }) (h.agrees i l) (h.over i l) low
    (λ z. subst (λ (x : ℕ). (x ≡ 0) ⊎ (x ≡ w.asked)) (sym e) (top z)))
    (λ other _. yet_site sid n w h i (record { kept = s.kept; all = s.all; question = q; about = s.about; past = put nobody j true }) (h.agrees i l) (h.over i l) low (λ z. absurd (other z)))
    (yet_site sid n w h i s (h.agrees i l) (h.over i l) (h.low i l) top)
