-- What was served and how it ended is what the definition says of the stream.
use Rattle.std.proofs.Common.{◌≡◌, ℕ, Bool, true, false, cond, List, [], ◌∷◌, ◌++◌, Option, Some, None, Ok, Err, refl, sym, ap, subst, ◌∙◌, append_assoc}
use Rattle.std.specs.Io.KnownBytes.{Appends}
use Rattle.std.proofs.KnownBytes.{Appends-nil, Appends-trans}
use Rattle.dia_codec.specs.declared.stream.StreamEnd.{StreamEnd}
use Rattle.dia_codec.specs.Stream.{front_of, stream_of, end_of, end_by}
use Rattle.dia_codec.proofs.Frames.{end_bad}
use Rattle.site_core.specs.declared.ended.Ended.{Ended}
use Rattle.site_core.specs.declared.ended.Ended.TheVariants.{Closed, Cut, Disconnected, Frame, ReadFailed, WriteFailed, NoMemory}
use Rattle.site_machine.specs.Sites.{SiteValue}
use Rattle.site_core.specs.Frames.{answer_of, ends, after}
use Rattle.site_core.specs.Cuts.{Cuts, cut_of}
use Rattle.site_core.specs.Conversations.{Conversation, conversation, conversation_of, prepend, ended_by, after_all, answers, GoesOn, IsEnd}
use Rattle.site_core.specs.Conversing.{Went, Stops, Conversed}
use Rattle.site_core.proofs.Turns.{each-append, stream_of-two}
use Rattle.site_core.proofs.StreamReading.{none_front}
use Rattle.site_core.proofs.Cutting.{cut_of_is, cut_of_only, cut_none, cut_some}

-- the frames that were served, and then those of the rest
pub went_cut : (old : SiteValue) (stream : List ℕ) (from : Option (List ℕ)) (rest : List ℕ) (new : SiteValue) (to : Option (List ℕ)) (w : Went old stream from rest new to) → cut_of stream ≡ record { frames = w.frames ++ (cut_of rest).frames; end = (cut_of rest).end }
went_cut old stream from rest new to w =
    let c = cut_of_is rest in
    cut_of_only stream (w.frames ++ (cut_of rest).frames) (cut_of rest).end record {
      rest = c.rest;
      splits = record {
        whole = w.whole ∙ sym (stream_of-two w.frames (cut_of rest).frames c.rest ∙ ap (stream_of w.frames) (sym c.splits.whole));
        each = each-append w.frames (cut_of rest).frames w.each c.splits.each;
        stops = c.splits.stops;
      };
      ends = c.ends;
    }

-- a test that let go on
goes : (b : Bool) (x y : Conversation) → b ≡ false → cond b x y ≡ y
goes true x y e = absurd cc
goes false x y e = refl

-- a test that ended
halts : (b : Bool) (x y : Conversation) → b ≡ true → cond b x y ≡ x
halts true x y e = refl
halts false x y e = absurd cc

-- frames that end nothing, and then others
conversation-append : (site : SiteValue) (frames more : List (List ℕ)) (end : StreamEnd) → GoesOn site frames → conversation site (frames ++ more) end ≡ prepend (answers site frames) (conversation (after_all site frames) more end)
conversation-append site [] more end on = refl
conversation-append site (frame ∷ frames) more end on =
    let again = conversation-append (after site frame) frames more end on.1 in
    let rest = conversation (after_all (after site frame) frames) more end in
    let with_bytes : List ℕ → Conversation = λ b. record { bytes = b; ended = rest.ended; site = rest.site } in
    goes (ends site frame) _ _ on.0 ∙ ap (prepend (answer_of site frame)) again ∙ ap with_bytes (sym (append_assoc (answer_of site frame) (answers (after site frame) frames) rest.bytes))

-- what a conversation ended with is what another says
pub record Ends (from : Option (List ℕ)) (end : Ended) (new : SiteValue) (to : Option (List ℕ)) (c : Conversation) : Type 0 where
  pub ended : end ≡ c.ended
  pub site : new ≡ c.site
  pub written : Appends from to c.bytes

-- a conversation of which nothing is left but its end
ends_here : (mid : SiteValue) (rest : List ℕ) (w : Option (List ℕ)) (end : Ended) (new : SiteValue) (to : Option (List ℕ)) → cut_of rest ≡ record { frames = []; end = end_of rest } → end ≡ ended_by (end_of rest) → new ≡ mid → to ≡ w → Ends w end new to (conversation_of mid rest)
unfolding conversation_of
ends_here mid rest w end new to cut e n t =
    let same : conversation mid (cut_of rest).frames (cut_of rest).end ≡ record { bytes = []; ended = ended_by (end_of rest); site = mid } = ap (λ (c : Cuts). conversation mid c.frames c.end) cut in
    subst (Ends w end new to) (sym same) (record { ended = e; site = n; written = subst (λ (x : Option (List ℕ)). Appends w x []) (sym t) (Appends-nil w) })

-- a frame ends the conversation
ends_with : (mid : SiteValue) (rest : List ℕ) (w : Option (List ℕ)) (frame more : List ℕ) (new : SiteValue) (to : Option (List ℕ)) → front_of rest ≡ Ok (Some (frame, more)) → ends mid frame ≡ true → new ≡ after mid frame → Appends w to (answer_of mid frame) → Ends w Disconnected new to (conversation_of mid rest)
unfolding conversation_of
ends_with mid rest w frame more new to found stop n wrote =
    let same = ap (λ (c : Cuts). conversation mid c.frames c.end) (cut_some rest frame more found) ∙ halts (ends mid frame) _ _ stop in
    subst (Ends w Disconnected new to) (sym same) (record { ended = refl; site = n; written = wrote })

-- the last step
last_step : (mid : SiteValue) (rest : List ℕ) (w : Option (List ℕ)) (end : Ended) (new : SiteValue) (to : Option (List ℕ)) → IsEnd end → Stops mid rest w end new to → Ends w end new to (conversation_of mid rest)
last_step mid rest w Closed new to i s =
    ends_here mid rest w Closed new to (cut_none rest (Ok None) (none_front rest s.0) (λ x given. absurd cc)) (sym (ap (λ (r : List ℕ). ended_by (end_of r)) s.0)) s.1 s.2
last_step mid rest w Cut new to i s =
    let first : end_of rest ≡ end_by (front_of (s.0 ∷ s.1)) = ap end_of s.2 in
    let none : front_of (s.0 ∷ s.1) ≡ Ok None = ap front_of (sym s.2) ∙ s.3 in
    ends_here mid rest w Cut new to (cut_none rest (Ok None) s.3 (λ x given. absurd cc)) (sym (ap ended_by (first ∙ ap end_by none))) s.4 s.5
last_step mid rest w (Frame fault) new to i s =
    ends_here mid rest w (Frame fault) new to (cut_none rest (Err fault) s.0 (λ x given. absurd cc)) (ap ended_by (end_bad rest fault s.0)) s.1 s.2
last_step mid rest w Disconnected new to i s = ends_with mid rest w s.0 s.1 new to s.2 s.3 s.4 s.5
last_step mid rest w ReadFailed new to i s = absurd i
last_step mid rest w WriteFailed new to i s = absurd i
last_step mid rest w NoMemory new to i s = absurd i

-- the whole conversation is that of the definition
pub conversed_whole : (old : SiteValue) (stream : List ℕ) (from : Option (List ℕ)) (end : Ended) (new : SiteValue) (to : Option (List ℕ)) → IsEnd end → Conversed old stream from end new to → Ends from end new to (conversation_of old stream)
unfolding conversation_of
conversed_whole old stream from end new to i c =
    let w = c.went in
    let last : Ends c.mid end new to (conversation_of c.site c.rest) = last_step c.site c.rest c.mid end new to i c.stops in
    let same : conversation_of old stream ≡ prepend (answers old w.frames) (conversation_of c.site c.rest) =
    ap (λ (x : Cuts). conversation old x.frames x.end) (went_cut old stream from c.rest c.site c.mid w)
    ∙ conversation-append old w.frames (cut_of c.rest).frames (cut_of c.rest).end w.on
    ∙ ap (λ (s : SiteValue). prepend (answers old w.frames) (conversation s (cut_of c.rest).frames (cut_of c.rest).end)) (sym w.site) in
    subst (Ends from end new to) (sym same) (record { ended = last.ended; site = last.site; written = Appends-trans from c.mid to _ _ w.written last.written })
