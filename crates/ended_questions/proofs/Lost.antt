-- While no question can be answered by all: the site that asks has none open, or a site that took the last one began again before it was ready.
use Rattle.std.proofs.Common.{◌≡◌, ℕ, ◌<◌, true, false, Bool, List, ◌⊎◌, inl, inr, refl, sym, ◌∙◌, subst}
use Rattle.ended_questions.specs.Held.{Held, Ended}
use Rattle.ended_questions.specs.Forgetting.{Message, Site, World, nobody, with_end_of, holding, put, with_site, sent, with_more, with_mark, first, each_below}
use Rattle.ended_questions.specs.Laws.{BringsNothingLive}
use Rattle.ended_questions.proofs.Queues.{Each, IsNoMark, each_last, Shrinks, put_at, put_true, nobody_true, marked_is, sent_is}
use Rattle.ended_questions.proofs.Yet.{IsAbout, Asked}
use Rattle.ended_questions.proofs.Open.{asked_sent, asked_less, asked_ended, asked_holding, asked_dropped}

-- Site f took the last question, but not in its present life, and never was ready: so its mark can't come.
pub record Fell (sid n : ℕ) (w : World) (f : ℕ) : Type 0 where
  pub some : 0 < w.asked
  pub member : f ≡ 0 → ⊥
  pub there : f < n
  pub to : Each (IsNoMark w.asked) (w.link 0 f)
  pub from : Each (IsNoMark w.asked) (w.link f 0)
  pub never : (w.site f).question ≡ w.asked → (w.site f).past 0 ≡ true → ⊥
  pub unsaid : (w.site 0).question ≡ w.asked → (w.site 0).past f ≡ true → ⊥

-- how it stands with the last question
abbrev pub Opened : ℕ → ℕ → World → Type 0
Opened sid n w = (took : ℕ → Bool) × Asked sid n w took × (each_below n took ≡ false)

abbrev pub Lost : ℕ → ℕ → World → Type 0
Lost sid n w = ((w.site 0).about sid ≡ false) ⊎ ((f : ℕ) × Fell sid n w f)

abbrev pub Stands : ℕ → ℕ → World → Type 0
Stands sid n w = Opened sid n w ⊎ Lost sid n w

-- ---- a site that fell

pub fell_site : (sid n : ℕ) (w : World) (f : ℕ) → Fell sid n w f → (i : ℕ) (s : Site) → (i ≡ f → s.question ≡ w.asked → s.past 0 ≡ true → ⊥) → (i ≡ 0 → s.question ≡ w.asked → s.past f ≡ true → ⊥)
    → Fell sid n (with_site w i s) f
fell_site sid n w f h i s never unsaid = record {
  some = h.some;
  member = h.member;
  there = h.there;
  to = h.to;
  from = h.from;
  never = put_at (λ k z. k ≡ f → z.question ≡ w.asked → z.past 0 ≡ true → ⊥) w.site i s f never (λ _ _. h.never) refl;
  unsaid = put_at (λ k z. k ≡ 0 → z.question ≡ w.asked → z.past f ≡ true → ⊥) w.site i s 0 unsaid (λ _ _. h.unsaid) refl;
}

pub fell_sent : (sid n : ℕ) (w : World) (f : ℕ) → Fell sid n w f → (i : ℕ) (to : ℕ → Bool) (m : Message) → (i ≡ 0 → to f ≡ true → IsNoMark w.asked m) → (i ≡ f → to 0 ≡ true → IsNoMark w.asked m)
    → Fell sid n (sent w i to m) f
fell_sent sid n w f h i to m first second = record {
  some = h.some;
  member = h.member;
  there = h.there;
  to = sent_is (Each (IsNoMark w.asked)) w i to m 0 f h.to (λ e t. each_last (IsNoMark w.asked) (w.link 0 f) m h.to (first (sym e) t));
  from = sent_is (Each (IsNoMark w.asked)) w i to m f 0 h.from (λ e t. each_last (IsNoMark w.asked) (w.link f 0) m h.from (second (sym e) t));
  never = h.never;
  unsaid = h.unsaid;
}

pub fell_less : (sid n : ℕ) (w : World) (f : ℕ) → Fell sid n w f → (link : ℕ → ℕ → List Message) → ((j i : ℕ) → Shrinks (w.link j i) (link j i))
    → Fell sid n (record { site = w.site; link = link; asked = w.asked; ended = w.ended }) f
fell_less sid n w f h link less = record { some = h.some; member = h.member; there = h.there; to = (less 0 f).each (IsNoMark w.asked) h.to; from = (less f 0).each (IsNoMark w.asked) h.from; never = h.never; unsaid = h.unsaid }

pub fell_marked : (sid n : ℕ) (w : World) (f : ℕ) → Fell sid n w f → (i j q : ℕ) → (i ≡ f → j ≡ 0 → q ≡ w.asked → ⊥) → (i ≡ 0 → j ≡ f → q ≡ w.asked → ⊥) → Fell sid n (with_mark w i j q) f
fell_marked sid n w f h i j q never unsaid =
    let s : Site = w.site i in
    let was_never = λ (e : i ≡ f). subst (λ (x : ℕ). (w.site x).question ≡ w.asked → (w.site x).past 0 ≡ true → ⊥) (sym e) h.never in
    let was_unsaid = λ (e : i ≡ 0). subst (λ (x : ℕ). (w.site x).question ≡ w.asked → (w.site x).past f ≡ true → ⊥) (sym e) h.unsaid in
    marked_is (λ z. Fell sid n (with_site w i z) f) i j q s
    (λ e. fell_site sid n w f h i (record { kept = s.kept; all = s.all; question = q; about = s.about; past = put s.past j true })
    (λ z at c. elim (put_true s.past j 0 c) [ inl same ↦ never z (sym same) at | inr was ↦ was_never z (sym e ∙ at) was ])
    (λ z at c. elim (put_true s.past j f c) [ inl same ↦ unsaid z (sym same) at | inr was ↦ was_unsaid z (sym e ∙ at) was ]))
    (λ other later. fell_site sid n w f h i (record { kept = s.kept; all = s.all; question = q; about = s.about; past = put nobody j true })
    (λ z at c. elim (put_true nobody j 0 c) [ inl same ↦ never z (sym same) at | inr was ↦ nobody_true 0 was ])
    (λ z. absurd (other z)))
    (fell_site sid n w f h i s was_never was_unsaid)

-- ---- the site that asks has none open about the session

pub none_site : (sid : ℕ) (w : World) → (w.site 0).about sid ≡ false → (i : ℕ) (s : Site) → (i ≡ 0 → s.about sid ≡ false) → ((with_site w i s).site 0).about sid ≡ false
none_site sid w h i s at = put_at (λ k z. k ≡ 0 → z.about sid ≡ false) w.site i s 0 at (λ _ _. h) refl

pub none_marked : (sid : ℕ) (w : World) → (w.site 0).about sid ≡ false → (i j q : ℕ) → ((with_mark w i j q).site 0).about sid ≡ false
none_marked sid w h i j q =
    let s : Site = w.site i in
    let was = λ (e : i ≡ 0). subst (λ (u : ℕ). (w.site u).about sid ≡ false) (sym e) h in
    marked_is (λ z. ((with_site w i z).site 0).about sid ≡ false) i j q s
    (λ e. none_site sid w h i (record { kept = s.kept; all = s.all; question = q; about = s.about; past = put s.past j true }) was)
    (λ other _. none_site sid w h i (record { kept = s.kept; all = s.all; question = q; about = s.about; past = put nobody j true }) was)
    (none_site sid w h i s was)

-- ---- however it stands

pub stands_holding : (sid n : ℕ) (w : World) → Stands sid n w → (i : ℕ) → i < n → (k a : ℕ → Held) → Stands sid n (with_more w i k a)
stands_holding sid n w (inl o) i l k a = inl (o.0, asked_holding sid n w o.0 o.1 i l k a, o.2)
stands_holding sid n w (inr (inl h)) i l k a = inr (inl (none_site sid w h i (holding k a (w.site i)) (λ e. subst (λ (x : ℕ). (w.site x).about sid ≡ false) (sym e) h)))
stands_holding sid n w (inr (inr h)) i l k a = inr (inr (
  h.0,
  fell_site sid n w h.0 h.1 i (holding k a (w.site i))
      (λ e. subst (λ (x : ℕ). (w.site x).question ≡ w.asked → (w.site x).past 0 ≡ true → ⊥) (sym e) (h.1).never)
      (λ e. subst (λ (x : ℕ). (w.site x).question ≡ w.asked → (w.site x).past h.0 ≡ true → ⊥) (sym e) (h.1).unsaid),
))

pub stands_ended : (sid n : ℕ) (w : World) → Stands sid n w → (y : ℕ) → Stands sid n (with_end_of w y)
stands_ended sid n w (inl o) y = inl (o.0, asked_ended sid n w o.0 o.1 y, o.2)
stands_ended sid n w (inr (inl h)) y = inr (inl h)
stands_ended sid n w (inr (inr h)) y = inr (inr (h.0, record { some = (h.1).some; member = (h.1).member; there = (h.1).there; to = (h.1).to; from = (h.1).from; never = (h.1).never; unsaid = (h.1).unsaid }))

pub stands_less : (sid n : ℕ) (w : World) → Stands sid n w → (link : ℕ → ℕ → List Message) → ((j i : ℕ) → Shrinks (w.link j i) (link j i))
    → Stands sid n (record { site = w.site; link = link; asked = w.asked; ended = w.ended })
stands_less sid n w (inl o) link less = inl (o.0, asked_less sid n w o.0 o.1 link less, o.2)
stands_less sid n w (inr (inl h)) link less = inr (inl h)
stands_less sid n w (inr (inr h)) link less = inr (inr (h.0, fell_less sid n w h.0 h.1 link less))

-- who holds the end sends nothing live
pub stands_sent : (sid n : ℕ) (w : World) → Stands sid n w → (i : ℕ) → i < n → (to : ℕ → Bool) (m : Message) → ((q : ℕ) → IsNoMark q m × IsAbout sid q m) → ((w.site i).kept sid ≡ Ended → BringsNothingLive sid m) → Stands sid n (sent w i to m)
stands_sent sid n w (inl o) i l to m plain dead = inl (o.0, asked_sent sid n w o.0 o.1 i to m (λ t. dead ((o.1).held i l t)) (λ _. (plain w.asked).0) (λ _ _. (plain w.asked).0) (plain w.asked).1, o.2)
stands_sent sid n w (inr (inl h)) i l to m plain dead = inr (inl h)
stands_sent sid n w (inr (inr h)) i l to m plain dead = inr (inr (h.0, fell_sent sid n w h.0 h.1 i to m (λ _ _. (plain w.asked).0) (λ _ _. (plain w.asked).0)))

-- a site lets go of its question, and holds of the session what it did
pub stands_dropped : (sid n : ℕ) (w : World) → Stands sid n w → (i : ℕ) → i < n → (s : Site) → s.kept sid ≡ (w.site i).kept sid → s.about sid ≡ false → s.past ≡ nobody → Stands sid n (with_site w i s)
stands_dropped sid n w (inl o) i l s same about none = inl (o.0, asked_dropped sid n w o.0 o.1 i l s (λ t. same ∙ (o.1).held i l t) none, o.2)
stands_dropped sid n w (inr (inl h)) i l s same about none = inr (inl (none_site sid w h i s (λ _. about)))
stands_dropped sid n w (inr (inr h)) i l s same about none = inr (inr (
  h.0,
  fell_site sid n w h.0 h.1 i s
      (λ _ _ c. nobody_true 0 (subst (λ (f : ℕ → Bool). f 0 ≡ true) none c)) (λ _ _ c. nobody_true h.0 (subst (λ (f : ℕ → Bool). f h.0 ≡ true) none c)),
))
