-- How sites forget sessions that ended: several sites, their links, and what may happen. Sessions are numbers.
use Rattle.std.specs.Prelude.{ℕ, zero, suc, ◌+◌, ◌==◌, Bool, true, false, if◌then◌else◌, not, ◌&&◌, ◌||◌, List, [], ◌∷◌, ◌++◌, nat_lt}
use Rattle.ended_questions.specs.Held.{Held, Unknown, Live, Ended, joined, is_live, is_ended, forgotten}

-- What is in flight from one site to another. A whole letter has what its sender holds of each session and, which no site sees and the laws are
-- about, what it would hold had nobody forgotten; facts are those of an operation that the sender made on a session; an end is one that it made, or a
-- notice that the session is ended there; then a question about these sessions, the mark behind which its sender tells nothing live of them, and that
-- all have marked and they are to be forgotten.
pub data Message : Type 0 where
  Whole : (ℕ → Held) → (ℕ → Held) → Message
  Facts : ℕ → List ℕ → Message
  End : ℕ → Message
  Ask : ℕ → (ℕ → Bool) → Message
  Past : ℕ → Message
  Forget : ℕ → (ℕ → Bool) → Message

-- What a site holds of each session; what it would hold had nobody forgotten; the number of the question that is open, 0 if none is; of the site that
-- asks, which sessions it is about; and whose marks of it came.
pub record Site : Type 0 where
  pub kept : ℕ → Held
  pub all : ℕ → Held
  pub question : ℕ
  pub about : ℕ → Bool
  pub past : ℕ → Bool

-- All sites; what is in flight from the one to the other, oldest first; the greatest number that a question had; and which sessions some site ended.
pub record World : Type 0 where
  pub site : ℕ → Site
  pub link : ℕ → ℕ → List Message
  pub asked : ℕ
  pub ended : ℕ → Bool

-- What may happen. A site makes an operation with facts on a session, or ends it; the first site writes all that it holds to the second, or tells it by
-- a notice that a session is ended there; the site that asks does so, by a number above all before, about those of these sessions that are ended there;
-- the first site, which took a
-- question, marks its link to the second; a site whose peers all have marked says so to the site that asks; that one, once all said so, has a site
-- forget, and forgets itself; a site lets go of its question; the second site takes what is first in flight from the first one; of what is in flight
-- only the first so many are still to come; a site starts again, empty.
pub data Event : Type 0 where
  Operates : ℕ → ℕ → List ℕ → Event
  Ends : ℕ → ℕ → Event
  Writes : ℕ → ℕ → Event
  Tells : ℕ → ℕ → ℕ → Event
  Asks : ℕ → (ℕ → Bool) → Event
  Marks : ℕ → ℕ → Event
  Answers : ℕ → Event
  Releases : ℕ → Event
  Forgets : Event
  Drops : ℕ → Event
  Takes : ℕ → ℕ → Event
  Cuts : ℕ → ℕ → ℕ → Event
  Restarts : ℕ → Event

-- ---- one site

-- the function, with this value there
abbrev pub put : {A : Type 0} → (ℕ → A) → ℕ → A → ℕ → A
put f i x k = if k == i then x else f k

-- nobody; of no session
abbrev pub nobody : ℕ → Bool
nobody k = false

-- nothing of any session
abbrev pub nothing : ℕ → Held
nothing x = Unknown

-- this of one session
abbrev pub only : ℕ → Held → ℕ → Held
only y k x = if x == y then k else Unknown

-- the end of each of these
abbrev pub ends_of_these : (ℕ → Bool) → ℕ → Held
ends_of_these about x = if about x then Ended else Unknown

-- of a site that starts
abbrev pub fresh_site : Site
fresh_site = record { kept = nothing; all = nothing; question = 0; about = nobody; past = nobody }

-- with more held
abbrev pub holding : (ℕ → Held) → (ℕ → Held) → Site → Site
holding k a s = record { kept = λ x. joined (s.kept x) (k x); all = λ x. joined (s.all x) (a x); question = s.question; about = s.about; past = s.past }

-- with the mark of site j: of the question that is open; a later one takes its place, but at the site that asks
abbrev pub marked : ℕ → ℕ → ℕ → Site → Site
marked i j q s =
    if q == s.question then record { kept = s.kept; all = s.all; question = q; about = s.about; past = put s.past j true }
    else (if not (i == 0) && nat_lt s.question q then record { kept = s.kept; all = s.all; question = q; about = s.about; past = put nobody j true } else s)

-- with no question
abbrev pub without_question : Site → Site
without_question s = record { kept = s.kept; all = s.all; question = 0; about = nobody; past = nobody }

-- with the ends of these forgotten, and no question
abbrev pub forgetful : (ℕ → Bool) → Site → Site
forgetful about s = record { kept = λ x. if about x then forgotten (s.kept x) else s.kept x; all = s.all; question = 0; about = nobody; past = nobody }

-- below n each is so
abbrev pub each_below : ℕ → (ℕ → Bool) → Bool
each_below zero f = true
each_below (suc n) f = f n && each_below n f

-- of n sites: a question is open at site i, and all its peers have marked
abbrev pub has_all_marks : ℕ → ℕ → Site → Bool
has_all_marks n i s = nat_lt 0 s.question && each_below n (λ k. k == i || s.past k)

-- a question is open that the site took
abbrev pub took_question : Site → Bool
took_question s = nat_lt 0 s.question && s.past 0

-- A site that doesn't know the session makes an operation only before the session ended anywhere, since a Session-Id is never used again
-- (RFC 6733, 8.8); one that holds its end makes none.
abbrev pub may_operate : Bool → Held → Bool
may_operate ended Unknown = not ended
may_operate ended (Live f) = true
may_operate ended Ended = false

-- ---- the world

-- with site i so
abbrev pub with_site : World → ℕ → Site → World
with_site w i s = record { site = put w.site i s; link = w.link; asked = w.asked; ended = w.ended }

-- with more held at site i
abbrev pub with_more : World → ℕ → (ℕ → Held) → (ℕ → Held) → World
with_more w i k a = with_site w i (holding k a (w.site i))

-- with the mark of site j at site i
abbrev pub with_mark : World → ℕ → ℕ → ℕ → World
with_mark w i j q = with_site w i (marked i j q (w.site i))

-- with one more in flight from site i to each of these
abbrev pub sent : World → ℕ → (ℕ → Bool) → Message → World
sent w i to m = record { site = w.site; link = λ a b. if a == i && to b then w.link a b ++ m ∷ [] else w.link a b; asked = w.asked; ended = w.ended }

-- with this in flight from site j to site i
abbrev pub with_link : World → ℕ → ℕ → List Message → World
with_link w j i ms = record { site = w.site; link = λ a b. if a == j && b == i then ms else w.link a b; asked = w.asked; ended = w.ended }

-- the first so many
abbrev pub first : ℕ → List Message → List Message
first zero ms = []
first (suc k) [] = []
first (suc k) (m ∷ ms) = m ∷ first k ms

-- with nothing in flight to site i
abbrev pub unlinked : World → ℕ → World
unlinked w i = record { site = w.site; link = λ a b. if b == i then [] else w.link a b; asked = w.asked; ended = w.ended }

-- all but site i
abbrev pub others : ℕ → ℕ → Bool
others i k = not (k == i)

-- some site ended the session
abbrev pub with_end_of : World → ℕ → World
with_end_of w y = record { site = w.site; link = w.link; asked = w.asked; ended = put w.ended y true }

-- those of these sessions whose end the site holds
abbrev pub those_ended : Site → (ℕ → Bool) → ℕ → Bool
those_ended s these x = these x && is_ended (s.kept x)

-- with a question of site 0 about these, of this number
abbrev pub asking : World → ℕ → (ℕ → Bool) → World
asking w q about =
    with_site (record { site = w.site; link = w.link; asked = q; ended = w.ended }) 0
    (record { kept = (w.site 0).kept; all = (w.site 0).all; question = q; about = about; past = nobody })

-- ---- what happens

-- site i takes a message of site j
abbrev pub taken : ℕ → World → ℕ → ℕ → Message → World
taken n w j i (Whole k a) = with_more w i k a
taken n w j i (Facts y f) = with_more w i (only y (Live f)) (only y (Live f))
taken n w j i (End y) = with_more w i (only y Ended) (only y Ended)
taken n w j i (Ask q about) = with_mark (with_more w i (ends_of_these about) (ends_of_these about)) i j q
taken n w j i (Past q) = with_mark w i j q
taken n w j i (Forget q about) = if q == (w.site i).question && has_all_marks n i (w.site i) then with_site w i (forgetful about (w.site i)) else w

-- it takes the first of these, if there is one
abbrev pub first_taken : ℕ → World → ℕ → ℕ → List Message → World
first_taken n w j i [] = w
first_taken n w j i (m ∷ ms) = taken n (with_link w j i ms) j i m

-- where n sites are there, the others being none
abbrev pub happens : ℕ → World → Event → World
happens n w (Operates i y f) =
    if nat_lt i n && may_operate (w.ended y) ((w.site i).kept y) then sent (with_more w i (only y (Live f)) (only y (Live f))) i (others i) (Facts y f) else w
happens n w (Ends i y) =
    if nat_lt i n && is_live ((w.site i).kept y)
    then sent (with_more (with_end_of w y) i (only y Ended) (only y Ended)) i (others i) (End y)
    else w
happens n w (Writes j i) = if nat_lt j n then sent w j (λ k. k == i) (Whole (w.site j).kept (w.site j).all) else w
happens n w (Tells j i y) = if nat_lt j n && is_ended ((w.site j).kept y) then sent w j (λ k. k == i) (End y) else w
happens n w (Asks q these) =
    if nat_lt w.asked q then sent (asking w q (those_ended (w.site 0) these)) 0 (others 0) (Ask q (those_ended (w.site 0) these)) else w
happens n w (Marks j k) =
    if nat_lt j n && not (j == 0) && took_question (w.site j) then sent w j (λ p. p == k && not (p == 0)) (Past (w.site j).question) else w
happens n w (Answers i) =
    if nat_lt i n && not (i == 0) && has_all_marks n i (w.site i) then sent w i (λ k. k == 0) (Past (w.site i).question) else w
happens n w (Releases k) = if has_all_marks n 0 (w.site 0) then sent w 0 (λ p. p == k) (Forget (w.site 0).question (w.site 0).about) else w
happens n w Forgets = if has_all_marks n 0 (w.site 0) then with_site w 0 (forgetful (w.site 0).about (w.site 0)) else w
happens n w (Drops i) = if nat_lt i n then with_site w i (without_question (w.site i)) else w
happens n w (Takes j i) = if nat_lt j n && nat_lt i n && not (i == j) then first_taken n w j i (w.link j i) else w
happens n w (Cuts j i k) = with_link w j i (first k (w.link j i))
happens n w (Restarts i) = if nat_lt i n then with_site (unlinked w i) i fresh_site else w

-- all events, in order
abbrev pub after_all : ℕ → World → List Event → World
after_all n w [] = w
after_all n w (e ∷ es) = after_all n (happens n w e) es

-- at first nobody knows anything
abbrev pub start : World
start = record { site = λ i. fresh_site; link = λ j i. []; asked = 0; ended = nobody }
