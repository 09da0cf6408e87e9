-- Bytes that are read, and answered as far as they hold whole frames.
use Rattle.std.proofs.Common.{◌≡◌, ℕ, List, [], ◌∷◌, ◌++◌, Option, Some, None, Ok, ◌⊎◌, inl, inr, IfSome, refl, sym, ap, subst, ◌∙◌, append-nil, append_assoc, length, eqb, true, false, take, arith}
use Rattle.std.specs.Io.KnownBytes.{Consumes, IsAtEnd}
use Rattle.std.proofs.KnownBytes.{Consumes-nil, Consumes-trans}
use Rattle.std.proofs.lemmas.Bool.{eqb-true}
use Rattle.dia_codec.specs.Stream.{front_of}
use Rattle.dia_codec.proofs.Frames.{front_of-append, frame_again, frame_takes}
use Rattle.site_machine.specs.Sites.{SiteValue}
use Rattle.site_core.specs.declared.ended.Ended.{Ended}
use Rattle.site_core.specs.declared.ended.Ended.TheVariants.{Closed, Cut, Disconnected, Frame, ReadFailed, WriteFailed, NoMemory}
use Rattle.site_core.specs.Conversing.{Went, Serves, Stops, Conversed, IsMidway}
use Rattle.site_core.proofs.Turns.{went_nowhere, went_twice, went_more}

-- some bytes were given, and their whole frames served
pub record Reads (old : SiteValue) (source : Option (List ℕ)) (from : Option (List ℕ)) (left : Option (List ℕ)) (rest : List ℕ) (site : SiteValue) (to : Option (List ℕ)) : Type 0 where
  pub given : List ℕ
  pub consumed : Consumes source left given
  pub went : Went old given from rest site to

-- nothing was read yet
pub reads_nothing : (old : SiteValue) (source from : Option (List ℕ)) (rest : List ℕ) → rest ≡ [] → Reads old source from source rest old from
reads_nothing old source from rest e = record { given = []; consumed = Consumes-nil source; went = subst (λ (r : List ℕ). Went old [] from r old from) (sym e) (went_nowhere old [] from) }

-- a frame at the front stays there, whatever follows
front_more : (rest frame after more : List ℕ) → front_of rest ≡ Ok (Some (frame, after)) → front_of (rest ++ more) ≡ Ok (Some (frame, after ++ more))
front_more rest frame after more e =
    let t = frame_takes rest frame after e in
    ap front_of (ap (λ (x : List ℕ). x ++ more) t.1 ∙ append_assoc frame after more) ∙ frame_again frame (after ++ more) t.0

-- so does the frame that was served
memory_more : (old : SiteValue) (rest : List ℕ) (new : SiteValue) (more : List ℕ) → (new ≡ old) ⊎ Serves old rest new → (new ≡ old) ⊎ Serves old (rest ++ more) new
memory_more old rest new more (inl same) = inl same
memory_more old rest new more (inr s) = inr (s.0, s.1 ++ more, front_more rest s.0 s.1 more s.2, s.3)

-- a step that ended on what was read ends so whatever follows
stops_more : (old : SiteValue) (rest : List ℕ) (from : Option (List ℕ)) (end : Ended) (new : SiteValue) (to : Option (List ℕ)) (more : List ℕ) → IsMidway end → Stops old rest from end new to → Stops old (rest ++ more) from end new to
stops_more old rest from Disconnected new to more m s = (s.0, s.1 ++ more, front_more rest s.0 s.1 more s.2, s.3, s.4, s.5)
stops_more old rest from WriteFailed new to more m s = (s.0, s.1 ++ more, front_more rest s.0 s.1 more s.2, s.3, s.4)
stops_more old rest from NoMemory new to more m s = (s.0, memory_more old rest new more s.1)
stops_more old rest from (Frame fault) new to more m s = (front_of-append rest more fault s.0, s.1, s.2)
stops_more old rest from Closed new to more m s = absurd m
stops_more old rest from Cut new to more m s = absurd m
stops_more old rest from ReadFailed new to more m s = absurd m

-- one more piece was fed, and its frames served
pub reads_on : (old : SiteValue) (source from left : Option (List ℕ)) (rest : List ℕ) (site : SiteValue) (to : Option (List ℕ)) (piece fed : List ℕ) (left2 : Option (List ℕ)) (last : List ℕ) (new : SiteValue) (to2 : Option (List ℕ)) → Reads old source from left rest site to
    → Consumes left left2 piece → fed ≡ rest ++ piece → Went site fed to last new to2 → Reads old source from left2 last new to2
reads_on old source from left rest site to piece fed left2 last new to2 r c e w = record {
  given = r.given ++ piece;
  consumed = Consumes-trans source left left2 r.given piece r.consumed c;
  went = went_twice old (r.given ++ piece) from (rest ++ piece) site to last new to2 (went_more old r.given from rest site to piece r.went) (subst (λ (x : List ℕ). Went site x to last new to2) e w);
}

-- ---- the end

-- after what was read, the conversation on all of the input ended
pub read_ends : (old : SiteValue) (source from left : Option (List ℕ)) (rest : List ℕ) (site : SiteValue) (to : Option (List ℕ)) (end : Ended) (new : SiteValue) (to2 : Option (List ℕ)) → Reads old source from left rest site to
    → ((more : List ℕ) → left ≡ Some more → Stops site (rest ++ more) to end new to2) → IfSome source (λ input. Conversed old input from end new to2)
read_ends old None from left rest site to end new to2 r s = tt
read_ends old (Some input) from None rest site to end new to2 r s = absurd r.consumed
read_ends old (Some input) from (Some more) rest site to end new to2 r s = record {
  rest = rest ++ more;
  site = site;
  mid = to;
  went = subst (λ (x : List ℕ). Went old x from (rest ++ more) site to) (sym r.consumed) (went_more old r.given from rest site to more r.went);
  stops = s more refl;
}

-- a frame of what was read ended the conversation
pub read_stops : (old : SiteValue) (source from left : Option (List ℕ)) (rest : List ℕ) (site : SiteValue) (to : Option (List ℕ)) (piece fed : List ℕ) (left2 : Option (List ℕ)) (end : Ended) (new : SiteValue) (to2 : Option (List ℕ)) → Reads old source from left rest site to
    → Consumes left left2 piece → fed ≡ rest ++ piece → IsMidway end → Conversed site fed to end new to2 → IfSome source (λ input. Conversed old input from end new to2)
read_stops old source from left rest site to piece fed left2 end new to2 r c e m s =
    read_ends old source from left2 s.rest s.site s.mid end new to2 (reads_on old source from left rest site to piece fed left2 s.rest s.site s.mid r c e s.went) (λ more _. stops_more s.site s.rest s.mid end new to2 more m s.stops)

-- memory ran out, or a read failed
pub read_no_memory : (old : SiteValue) (source from left : Option (List ℕ)) (rest : List ℕ) (site : SiteValue) (to : Option (List ℕ)) → Reads old source from left rest site to → IfSome source (λ input. Conversed old input from NoMemory site to)
read_no_memory old source from left rest site to r = read_ends old source from left rest site to NoMemory site to r (λ more _. (refl, inl refl))

pub read_failed : (old : SiteValue) (source from left : Option (List ℕ)) (rest : List ℕ) (site : SiteValue) (to : Option (List ℕ)) → Reads old source from left rest site to → IfSome source (λ input. Conversed old input from ReadFailed site to)
read_failed old source from left rest site to r = read_ends old source from left rest site to ReadFailed site to r (λ more _. (refl, refl))

-- a read that gave nothing
reads_end : (old : SiteValue) (source from left : Option (List ℕ)) (rest : List ℕ) (site : SiteValue) (to left2 : Option (List ℕ)) → Reads old source from left rest site to → Consumes left left2 [] → Reads old source from left2 rest site to
reads_end old source from left rest site to left2 r c = reads_on old source from left rest site to [] rest left2 rest site to r c (sym (append-nil rest)) (went_nowhere site rest to)

none_left : (left : Option (List ℕ)) (more : List ℕ) → left ≡ Some more → IsAtEnd left → more ≡ []
none_left left more e end = subst IsAtEnd e end

nothing_follows : (left : Option (List ℕ)) (rest more : List ℕ) → left ≡ Some more → IsAtEnd left → rest ++ more ≡ rest
nothing_follows left rest more e end = ap (λ (x : List ℕ). rest ++ x) (none_left left more e end) ∙ append-nil rest

-- the input ended between frames
pub read_closed : (old : SiteValue) (source from left : Option (List ℕ)) (rest : List ℕ) (site : SiteValue) (to left2 : Option (List ℕ)) → Reads old source from left rest site to → Consumes left left2 [] → IsAtEnd left2 → eqb (length rest) 0 ≡ true
    → IfSome source (λ input. Conversed old input from Closed site to)
read_closed old source from left [] site to left2 r c end none =
    read_ends old source from left2 [] site to Closed site to (reads_end old source from left [] site to left2 r c) (λ more e. (nothing_follows left2 [] more e end, refl, refl))
read_closed old source from left (b ∷ rest) site to left2 r c end none = let z : length (b ∷ rest) ≡ 0 = eqb-true (length (b ∷ rest)) 0 none in absurd (omega arith)

-- the input ended within a frame
pub read_cut : (old : SiteValue) (source from left : Option (List ℕ)) (rest : List ℕ) (site : SiteValue) (to left2 : Option (List ℕ)) → Reads old source from left rest site to → Consumes left left2 [] → IsAtEnd left2 → eqb (length rest) 0 ≡ false → front_of rest ≡ Ok None
    → IfSome source (λ input. Conversed old input from Cut site to)
read_cut old source from left [] site to left2 r c end some none = absurd (cc)
read_cut old source from left (b ∷ rest) site to left2 r c end some none =
    read_ends old source from left2 (b ∷ rest) site to Cut site to (reads_end old source from left (b ∷ rest) site to left2 r c)
    (λ more e. (b, rest, nothing_follows left2 (b ∷ rest) more e end, ap front_of (nothing_follows left2 (b ∷ rest) more e end) ∙ none, refl, refl))

-- nothing stands at the front of nothing
pub none_front : (rest : List ℕ) → rest ≡ [] → front_of rest ≡ Ok None
unfolding front_of
none_front [] e = refl
none_front (b ∷ rest) e = absurd cc

-- a read into some room that gave no bytes met the end
pub gave_nothing : (left left2 : Option (List ℕ)) (n : ℕ) (buf : List ℕ) → n ≡ 0 → Consumes left left2 (take n buf) → Consumes left left2 []
gave_nothing left left2 n buf e c = subst (λ (k : ℕ). Consumes left left2 (take k buf)) e c
