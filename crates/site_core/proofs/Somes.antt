-- However a conversation ended, the stream's first frames were served.
use Rattle.std.proofs.Common.{◌≡◌, ℕ, zero, suc, ◌+◌, ◌-◌, ◌≤◌, List, [], ◌∷◌, ◌++◌, length, take, Option, Some, Ok, ◌⊎◌, inl, inr, refl, sym, ap, subst, ◌∙◌, append_assoc, arith}
use Rattle.std.specs.Io.KnownBytes.{Appends}
use Rattle.std.proofs.KnownBytes.{Appends-nil, Appends-trans}
use Rattle.std.proofs.lemmas.List.{length-append, take_all, take_at, take-append-le}
use Rattle.std.proofs.Math.Seq.{take-append_seam, take-append-add}
use Rattle.dia_codec.specs.declared.stream.StreamEnd.{StreamEnd}
use Rattle.dia_codec.specs.Stream.{front_of}
use Rattle.site_core.specs.declared.ended.Ended.{Ended}
use Rattle.site_core.specs.declared.ended.Ended.TheVariants.{Closed, Cut, Disconnected, Frame, ReadFailed, WriteFailed, NoMemory}
use Rattle.site_machine.specs.Sites.{SiteValue}
use Rattle.site_core.specs.Frames.{answer_of, after}
use Rattle.site_core.specs.Cuts.{Cuts, cut_of, first}
use Rattle.site_core.specs.Conversations.{after_all, answers, GoesOn, ServesSome}
use Rattle.site_core.specs.Conversing.{Went, Serves, Stops, Conversed}
use Rattle.site_core.proofs.Turns.{after_all-push, answers-push}
use Rattle.site_core.proofs.Cutting.{cut_some}
use Rattle.site_core.proofs.Wholes.{went_cut}

-- the first of frames that end nothing end nothing
GoesOn-take : (site : SiteValue) (n : ℕ) (frames : List (List ℕ)) → GoesOn site frames → GoesOn site (take n frames)
GoesOn-take site zero frames on = tt
GoesOn-take site (suc n) [] on = tt
GoesOn-take site (suc n) (frame ∷ frames) on = (on.0, GoesOn-take (after site frame) n frames on.1)

-- the answers to the first frames are no longer than those to all
answers-take : (site : SiteValue) (n : ℕ) (frames : List (List ℕ)) → length (answers site (take n frames)) ≤ length (answers site frames)
answers-take site zero frames = omega arith
answers-take site (suc n) [] = omega arith
answers-take site (suc n) (frame ∷ frames) =
    let again = answers-take (after site frame) n frames in
    let a = length-append (answer_of site frame) (answers (after site frame) (take n frames)) in
    let b = length-append (answer_of site frame) (answers (after site frame) frames) in
    omega arith

-- these frames are the stream's first
serves : (old : SiteValue) (stream : List ℕ) (new : SiteValue) (from to : Option (List ℕ)) (all before more : List (List ℕ)) (end : StreamEnd) (count : ℕ) → cut_of stream ≡ record { frames = all ++ more; end = end } → take (length all - 1) all ≡ before → GoesOn old before → new ≡ after_all old all
    → Appends from to (take count (answers old all)) → length (answers old before) ≤ count → ServesSome old stream new from to
serves old stream new from to all before more end count cut but on e wrote le =
    let frames : (cut_of stream).frames ≡ all ++ more = ap (λ (c : Cuts). c.frames) cut in
    let len : length (cut_of stream).frames ≡ length all + length more = ap length frames ∙ length-append all more in
    let firsts : first (length all) stream ≡ all = ap (take (length all)) frames ∙ take-append_seam all more in
    let short : length all - 1 ≤ length all = omega arith in
    let befores : first (length all - 1) stream ≡ before = ap (take (length all - 1)) frames ∙ take-append-le (length all - 1) all more short ∙ but in
    record {
      k = length all;
      count = count;
      there = omega arith;
      on = subst (GoesOn old) (sym befores) on;
      site = e ∙ ap (after_all old) (sym firsts);
      part = subst (λ (f : List (List ℕ)). Appends from to (take count (answers old f))) (sym firsts) wrote;
      least = subst (λ (f : List (List ℕ)). length (answers old f) ≤ count) (sym befores) le;
    }

-- each of the frames was answered whole
serves_whole : (old : SiteValue) (stream : List ℕ) (from : Option (List ℕ)) (rest : List ℕ) (mid : SiteValue) (w : Option (List ℕ)) (new : SiteValue) (to : Option (List ℕ)) → Went old stream from rest mid w → new ≡ mid → to ≡ w → ServesSome old stream new from to
serves_whole old stream from rest mid w new to went n t =
    let bytes = answers old went.frames in
    let all : take (length bytes) bytes ≡ bytes = take_all (length bytes) bytes (omega arith) in
    let wrote : Appends from to bytes = subst (λ (x : Option (List ℕ)). Appends from x bytes) (sym t) went.written in
    serves old stream new from to went.frames (take (length went.frames - 1) went.frames) (cut_of rest).frames (cut_of rest).end (length bytes) (went_cut old stream from rest mid w went) refl (GoesOn-take old (length went.frames - 1) went.frames went.on) (n ∙ went.site) (subst (Appends from to) (sym all) wrote) (answers-take old (length went.frames - 1) went.frames)

-- a further frame was answered in part
serves_part : (old : SiteValue) (stream : List ℕ) (from : Option (List ℕ)) (rest : List ℕ) (mid : SiteValue) (w : Option (List ℕ)) (frame more : List ℕ) (n : ℕ) (new : SiteValue) (to : Option (List ℕ)) → Went old stream from rest mid w → front_of rest ≡ Ok (Some (frame, more))
    → new ≡ after mid frame → Appends w to (take n (answer_of mid frame)) → ServesSome old stream new from to
serves_part old stream from rest mid w frame more n new to went found e wrote =
    let f = went.frames in
    let bytes = answers old f in
    let all : List (List ℕ) = f ++ frame ∷ [] in
    let follow = (cut_of more).frames in
    let cuts : List (List ℕ) → Cuts = λ x. record { frames = x; end = (cut_of more).end } in
    let cut : cut_of stream ≡ cuts (all ++ follow) = went_cut old stream from rest mid w went ∙ ap (λ (c : Cuts). record { frames = f ++ c.frames; end = c.end }) (cut_some rest frame more found) ∙ ap cuts (sym (append_assoc f (frame ∷ []) follow)) in
    let len : length all ≡ length f + 1 = length-append f (frame ∷ []) in
    let one_less : length f ≡ length all - 1 = omega arith in
    let but : take (length all - 1) all ≡ f = take_at f (frame ∷ []) (length all - 1) one_less in
    let site : new ≡ after_all old all = e ∙ ap (λ (s : SiteValue). after s frame) went.site ∙ sym (after_all-push old f frame) in
    let both : Appends from to (bytes ++ take n (answer_of mid frame)) = Appends-trans from w to bytes (take n (answer_of mid frame)) went.written wrote in
    let joined : take (length bytes + n) (answers old all) ≡ bytes ++ take n (answer_of mid frame) =
    ap (take (length bytes + n)) (answers-push old f frame ∙ ap (λ (s : SiteValue). bytes ++ answer_of s frame) (sym went.site)) ∙ take-append-add bytes (answer_of mid frame) n in
    serves old stream new from to all f follow (cut_of more).end (length bytes + n) cut but went.on site (subst (Appends from to) (sym joined) both) (omega arith)

-- memory ran out, before or after a further frame was served
serves_memory : (old : SiteValue) (stream : List ℕ) (from : Option (List ℕ)) (rest : List ℕ) (mid : SiteValue) (w : Option (List ℕ)) (new : SiteValue) (to : Option (List ℕ)) → Went old stream from rest mid w → to ≡ w → (new ≡ mid) ⊎ Serves mid rest new → ServesSome old stream new from to
serves_memory old stream from rest mid w new to went t (inl n) = serves_whole old stream from rest mid w new to went n t
serves_memory old stream from rest mid w new to went t (inr s) =
    let nothing : Appends w to [] = subst (λ (x : Option (List ℕ)). Appends w x []) (sym t) (Appends-nil w) in
    serves_part old stream from rest mid w s.0 s.1 0 new to went s.2 s.3 nothing

-- by the last step
serves_stop : (old : SiteValue) (stream : List ℕ) (from : Option (List ℕ)) (rest : List ℕ) (mid : SiteValue) (w : Option (List ℕ)) (end : Ended) (new : SiteValue) (to : Option (List ℕ)) → Went old stream from rest mid w → Stops mid rest w end new to → ServesSome old stream new from to
serves_stop old stream from rest mid w Closed new to went s = serves_whole old stream from rest mid w new to went s.1 s.2
serves_stop old stream from rest mid w Cut new to went s = serves_whole old stream from rest mid w new to went s.4 s.5
serves_stop old stream from rest mid w (Frame fault) new to went s = serves_whole old stream from rest mid w new to went s.1 s.2
serves_stop old stream from rest mid w ReadFailed new to went s = serves_whole old stream from rest mid w new to went s.0 s.1
serves_stop old stream from rest mid w NoMemory new to went s = serves_memory old stream from rest mid w new to went s.0 s.1
serves_stop old stream from rest mid w WriteFailed new to went s = serves_part old stream from rest mid w s.0 s.1 s.4.0 new to went s.2 s.3 s.4.1
serves_stop old stream from rest mid w Disconnected new to went s =
    let bytes = answer_of mid s.0 in
    let all : take (length bytes) bytes ≡ bytes = take_all (length bytes) bytes (omega arith) in
    serves_part old stream from rest mid w s.0 s.1 (length bytes) new to went s.2 s.4 (subst (Appends w to) (sym all) s.5)

-- however it ended
pub conversed_some : (old : SiteValue) (stream : List ℕ) (from : Option (List ℕ)) (end : Ended) (new : SiteValue) (to : Option (List ℕ)) → Conversed old stream from end new to → ServesSome old stream new from to
conversed_some old stream from end new to c = serves_stop old stream from c.rest c.site c.mid end new to c.went c.stops
