-- Frames that are served one after another.
use Rattle.std.proofs.Common.{◌≡◌, ℕ, false, List, [], ◌∷◌, ◌++◌, Option, Some, None, Ok, ◌⊎◌, inl, inr, refl, sym, ap, subst, ◌∙◌, append_assoc, append-nil}
use Rattle.std.specs.List.{AllByRecursion}
use Rattle.std.specs.Io.KnownBytes.{Appends}
use Rattle.std.proofs.KnownBytes.{Appends-nil, Appends-trans}
use Rattle.dia_codec.specs.Spelling.{IsFrame}
use Rattle.dia_codec.specs.Stream.{front_of, stream_of}
use Rattle.dia_codec.proofs.Frames.{frame_takes, stream_of-push, stream_of-append}
use Rattle.site_machine.specs.Sites.{SiteValue}
use Rattle.site_core.specs.Frames.{answer_of, ends, after}
use Rattle.site_core.specs.Conversations.{after_all, answers, GoesOn}
use Rattle.site_core.specs.declared.ended.Ended.{Ended}
use Rattle.site_core.specs.declared.ended.Ended.TheVariants.{Closed, Cut, Disconnected, Frame, ReadFailed, WriteFailed, NoMemory}
use Rattle.site_core.specs.Conversing.{Went, Turned, Serves, Stops, Conversed, IsMidway}

-- one more frame

pub after_all-push : (site : SiteValue) (frames : List (List ℕ)) (frame : List ℕ) → after_all site (frames ++ frame ∷ []) ≡ after (after_all site frames) frame
after_all-push site [] frame = refl
after_all-push site (f ∷ frames) frame = after_all-push (after site f) frames frame

pub answers-push : (site : SiteValue) (frames : List (List ℕ)) (frame : List ℕ) → answers site (frames ++ frame ∷ []) ≡ answers site frames ++ answer_of (after_all site frames) frame
answers-push site [] frame = append-nil (answer_of site frame)
answers-push site (f ∷ frames) frame = ap (λ (x : List ℕ). answer_of site f ++ x) (answers-push (after site f) frames frame) ∙ sym (append_assoc (answer_of site f) (answers (after site f) frames) (answer_of (after_all (after site f) frames) frame))

pub GoesOn-push : (site : SiteValue) (frames : List (List ℕ)) (frame : List ℕ) → GoesOn site frames → ends (after_all site frames) frame ≡ false → GoesOn site (frames ++ frame ∷ [])
GoesOn-push site [] frame on e = (e, tt)
GoesOn-push site (f ∷ frames) frame on e = (on.0, GoesOn-push (after site f) frames frame on.1 e)

pub each-push : (frames : List (List ℕ)) (frame : List ℕ) → AllByRecursion IsFrame frames → IsFrame frame → AllByRecursion IsFrame (frames ++ frame ∷ [])
each-push [] frame each f = (f, tt)
each-push (g ∷ frames) frame each f = (each.0, each-push frames frame each.1 f)

-- nothing was served yet
pub went_nowhere : (site : SiteValue) (stream : List ℕ) (from : Option (List ℕ)) → Went site stream from stream site from
went_nowhere site stream from = record { frames = []; whole = refl; each = tt; on = tt; site = refl; written = Appends-nil from }

-- one more frame was served
pub went_on : (old : SiteValue) (stream : List ℕ) (from : Option (List ℕ)) (rest : List ℕ) (mid : SiteValue) (w : Option (List ℕ)) (frame more : List ℕ) (new : SiteValue) (to : Option (List ℕ)) → Went old stream from rest mid w
    → front_of rest ≡ Ok (Some (frame, more)) → ends mid frame ≡ false → new ≡ after mid frame → Appends w to (answer_of mid frame) → Went old stream from more new to
went_on old stream from rest mid w frame more new to went found on e wrote =
    let taken = frame_takes rest frame more found in
    let same : mid ≡ after_all old went.frames = went.site in
    record {
      frames = went.frames ++ frame ∷ [];
      whole = went.whole ∙ ap (stream_of went.frames) taken.1 ∙ sym (stream_of-push went.frames frame more);
      each = each-push went.frames frame went.each taken.0;
      on = GoesOn-push old went.frames frame went.on (subst (λ (s : SiteValue). ends s frame ≡ false) same on);
      site = e ∙ ap (λ (s : SiteValue). after s frame) same ∙ sym (after_all-push old went.frames frame);
      written = subst (Appends from to) (ap (λ (s : SiteValue). answers old went.frames ++ answer_of s frame) same ∙ sym (answers-push old went.frames frame)) (Appends-trans from w to (answers old went.frames) (answer_of mid frame) went.written wrote);
    }

-- ---- frames after frames

pub after_all-append : (site : SiteValue) (a b : List (List ℕ)) → after_all site (a ++ b) ≡ after_all (after_all site a) b
after_all-append site [] b = refl
after_all-append site (f ∷ a) b = after_all-append (after site f) a b

pub answers-append : (site : SiteValue) (a b : List (List ℕ)) → answers site (a ++ b) ≡ answers site a ++ answers (after_all site a) b
answers-append site [] b = refl
answers-append site (f ∷ a) b = ap (λ (x : List ℕ). answer_of site f ++ x) (answers-append (after site f) a b) ∙ sym (append_assoc (answer_of site f) (answers (after site f) a) (answers (after_all (after site f) a) b))

pub GoesOn-append : (site : SiteValue) (a b : List (List ℕ)) → GoesOn site a → GoesOn (after_all site a) b → GoesOn site (a ++ b)
GoesOn-append site [] b on more = more
GoesOn-append site (f ∷ a) b on more = (on.0, GoesOn-append (after site f) a b on.1 more)

pub each-append : (a b : List (List ℕ)) → AllByRecursion IsFrame a → AllByRecursion IsFrame b → AllByRecursion IsFrame (a ++ b)
each-append [] b p q = q
each-append (f ∷ a) b p q = (p.0, each-append a b p.1 q)

pub stream_of-two : (a b : List (List ℕ)) (rest : List ℕ) → stream_of (a ++ b) rest ≡ stream_of a (stream_of b rest)
stream_of-two [] b rest = refl
stream_of-two (f ∷ a) b rest = ap (λ (x : List ℕ). f ++ x) (stream_of-two a b rest)

-- frames, and then frames of what they left
pub went_twice : (old : SiteValue) (stream : List ℕ) (from : Option (List ℕ)) (rest : List ℕ) (mid : SiteValue) (w : Option (List ℕ)) (last : List ℕ) (new : SiteValue) (to : Option (List ℕ)) → Went old stream from rest mid w → Went mid rest w last new to → Went old stream from last new to
went_twice old stream from rest mid w last new to a b =
    let same : mid ≡ after_all old a.frames = a.site in
    record {
      frames = a.frames ++ b.frames;
      whole = a.whole ∙ ap (stream_of a.frames) b.whole ∙ sym (stream_of-two a.frames b.frames last);
      each = each-append a.frames b.frames a.each b.each;
      on = GoesOn-append old a.frames b.frames a.on (subst (λ (s : SiteValue). GoesOn s b.frames) same b.on);
      site = b.site ∙ ap (λ (s : SiteValue). after_all s b.frames) same ∙ sym (after_all-append old a.frames b.frames);
      written = subst (Appends from to) (ap (λ (s : SiteValue). answers old a.frames ++ answers s b.frames) same ∙ sym (answers-append old a.frames b.frames)) (Appends-trans from w to (answers old a.frames) (answers mid b.frames) a.written b.written);
    }

-- more bytes follow
pub went_more : (old : SiteValue) (stream : List ℕ) (from : Option (List ℕ)) (rest : List ℕ) (new : SiteValue) (to : Option (List ℕ)) (more : List ℕ) → Went old stream from rest new to → Went old (stream ++ more) from (rest ++ more) new to
went_more old stream from rest new to more a = record {
  frames = a.frames;
  whole = ap (λ (x : List ℕ). x ++ more) a.whole ∙ stream_of-append a.frames rest more;
  each = a.each;
  on = a.on;
  site = a.site;
  written = a.written;
}

-- ---- the last step

-- the frame at the front was served, or not
by_memory : (old : SiteValue) (rest frame more : List ℕ) (new : SiteValue) → front_of rest ≡ Ok (Some (frame, more)) → (new ≡ old) ⊎ (new ≡ after old frame) → (new ≡ old) ⊎ Serves old rest new
by_memory old rest frame more new e (inl same) = inl same
by_memory old rest frame more new e (inr served) = inr (frame, more, e, served)

-- a frame was served, and the stream ends with it
turned_stops : (old : SiteValue) (rest frame more : List ℕ) (from : Option (List ℕ)) (end : Ended) (new : SiteValue) (to : Option (List ℕ)) → front_of rest ≡ Ok (Some (frame, more)) → Turned old frame from (Some end) new to → Stops old rest from end new to
turned_stops old rest frame more from Disconnected new to e t = (frame, more, e, t.0, t.1, t.2)
turned_stops old rest frame more from WriteFailed new to e t = (frame, more, e, t.0, t.1)
turned_stops old rest frame more from NoMemory new to e t = (t.0, by_memory old rest frame more new e t.1)
turned_stops old rest frame more from Closed new to e t = absurd t
turned_stops old rest frame more from Cut new to e t = absurd t
turned_stops old rest frame more from (Frame fault) new to e t = absurd t
turned_stops old rest frame more from ReadFailed new to e t = absurd t

-- no turn ends a stream for want of bytes
pub turned_midway : (old : SiteValue) (frame : List ℕ) (from : Option (List ℕ)) (end : Ended) (new : SiteValue) (to : Option (List ℕ)) → Turned old frame from (Some end) new to → IsMidway end
turned_midway old frame from Disconnected new to t = tt
turned_midway old frame from WriteFailed new to t = tt
turned_midway old frame from NoMemory new to t = tt
turned_midway old frame from Closed new to t = absurd t
turned_midway old frame from Cut new to t = absurd t
turned_midway old frame from (Frame fault) new to t = absurd t
turned_midway old frame from ReadFailed new to t = absurd t

-- frames were served, and the last of them ended the stream
pub went_to_stop : (old : SiteValue) (stream : List ℕ) (from : Option (List ℕ)) (rest : List ℕ) (mid : SiteValue) (w : Option (List ℕ)) (frame more : List ℕ) (end : Ended) (new : SiteValue) (to : Option (List ℕ)) → Went old stream from rest mid w
    → front_of rest ≡ Ok (Some (frame, more)) → Turned mid frame w (Some end) new to → Conversed old stream from end new to
went_to_stop old stream from rest mid w frame more end new to went e t = record { rest = rest; site = mid; mid = w; went = went; stops = turned_stops mid rest frame more w end new to e t }

-- a frame was served, and the stream goes on
pub went_turn : (old : SiteValue) (stream : List ℕ) (from : Option (List ℕ)) (rest : List ℕ) (mid : SiteValue) (w : Option (List ℕ)) (frame more : List ℕ) (turned : Option Ended) (new : SiteValue) (to : Option (List ℕ)) → Went old stream from rest mid w
    → front_of rest ≡ Ok (Some (frame, more)) → turned ≡ None → Turned mid frame w turned new to → Went old stream from more new to
went_turn old stream from rest mid w frame more turned new to went e none t =
    let s : Turned mid frame w None new to = subst (λ (r : Option Ended). Turned mid frame w r new to) none t in
    went_on old stream from rest mid w frame more new to went e s.0 s.1 s.2
