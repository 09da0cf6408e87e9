-- The definition's frames are those that are cut off.
use Rattle.std.proofs.Common.{◌≡◌, ℕ, zero, suc, ◌+◌, ◌≤◌, List, [], ◌∷◌, ◌++◌, length, Option, Some, None, Result, Ok, Err, refl, sym, ap, ◌∙◌, arith}
use Rattle.std.proofs.lemmas.List.{length-append}
use Rattle.dia_codec.specs.declared.fault.FrameFault.{FrameFault}
use Rattle.dia_codec.specs.declared.stream.StreamEnd.{StreamEnd}
use Rattle.dia_codec.specs.Stream.{front_of, end_of, CutsInto}
use Rattle.dia_codec.proofs.Frames.{frame_takes, one_end}
use Rattle.site_core.specs.Cuts.{Cuts, cut_front, cut_within, cut_of}

-- what stands at the front
abbrev Found : Type 0
Found = Result (Option (List ℕ × List ℕ)) FrameFault

-- no frame stands there
pub no_frame : (bytes : List ℕ) (r : Found) → front_of bytes ≡ r → ((x : List ℕ × List ℕ) → r ≡ Ok (Some x) → ⊥) → CutsInto bytes [] (end_of bytes)
no_frame bytes r e none = record { rest = bytes; splits = record { whole = refl; each = tt; stops = λ frame after given. none (frame, after) (sym e ∙ given) }; ends = refl }

-- one frame, and then those of the rest
pub cons_cut : (bytes frame rest : List ℕ) (frames : List (List ℕ)) (end : StreamEnd) → front_of bytes ≡ Ok (Some (frame, rest)) → CutsInto rest frames end → CutsInto bytes (frame ∷ frames) end
cons_cut bytes frame rest frames end e c =
    let t = frame_takes bytes frame rest e in
    record { rest = c.rest; splits = record { whole = t.1 ∙ ap (λ (x : List ℕ). frame ++ x) c.splits.whole; each = (t.0, c.splits.each); stops = c.splits.stops }; ends = c.ends }

-- the rest is shorter
shorter : (bytes frame rest : List ℕ) (n : ℕ) → front_of bytes ≡ Ok (Some (frame, rest)) → length bytes ≤ suc n → length rest ≤ n
shorter bytes frame rest n e le =
    let t = frame_takes bytes frame rest e in
    let least = t.0.least in
    let all : length bytes ≡ length frame + length rest = ap length t.1 ∙ length-append frame rest in
    omega arith

-- by what stands at the front
by_front : (again : List ℕ → Cuts) (bytes : List ℕ) (r : Found) → front_of bytes ≡ r → ((frame rest : List ℕ) → front_of bytes ≡ Ok (Some (frame, rest)) → CutsInto rest (again rest).frames (again rest).end)
    → CutsInto bytes (cut_front again bytes r).frames (cut_front again bytes r).end
by_front again bytes (Ok (Some x)) e h = cons_cut bytes x.0 x.1 (again x.1).frames (again x.1).end e (h x.0 x.1 e)
by_front again bytes (Ok None) e h = no_frame bytes (Ok None) e (λ x given. absurd cc)
by_front again bytes (Err fault) e h = no_frame bytes (Err fault) e (λ x given. absurd cc)

-- nothing stands at the front of nothing
few : (x : List ℕ × List ℕ) → front_of [] ≡ Ok (Some x) → ⊥
unfolding front_of
few x given = absurd cc

-- so few bytes are cut
cut_is : (n : ℕ) (bytes : List ℕ) → length bytes ≤ n → CutsInto bytes (cut_within n bytes).frames (cut_within n bytes).end
unfolding cut_within
cut_is zero [] le = no_frame [] (front_of []) refl (λ x given. few x given)
cut_is zero (b ∷ bytes) le = absurd (omega arith)
cut_is (suc n) bytes le = by_front (cut_within n) bytes (front_of bytes) refl (λ frame rest e. cut_is n rest (shorter bytes frame rest n e le))

-- a stream is cut into its frames
pub cut_of_is : (stream : List ℕ) → CutsInto stream (cut_of stream).frames (cut_of stream).end
unfolding cut_of
cut_of_is stream = cut_is (length stream) stream (omega arith)

-- whatever cuts it, they are its frames
pub cut_of_only : (stream : List ℕ) (frames : List (List ℕ)) (end : StreamEnd) → CutsInto stream frames end → cut_of stream ≡ record { frames = frames; end = end }
cut_of_only stream frames end c =
    let same = one_end stream (cut_of stream).frames frames (cut_of stream).end end (cut_of_is stream) c in
    let whole : cut_of stream ≡ record { frames = (cut_of stream).frames; end = (cut_of stream).end } = refl in
    let cuts : List (List ℕ) → StreamEnd → Cuts = λ f e. record { frames = f; end = e } in
    whole ∙ ap (λ (f : List (List ℕ)). cuts f (cut_of stream).end) same.0 ∙ ap (cuts frames) same.1

-- no frame stands at the front
pub cut_none : (rest : List ℕ) (r : Found) → front_of rest ≡ r → ((x : List ℕ × List ℕ) → r ≡ Ok (Some x) → ⊥) → cut_of rest ≡ record { frames = []; end = end_of rest }
cut_none rest r e none = cut_of_only rest [] (end_of rest) (no_frame rest r e none)

-- a frame stands there
pub cut_some : (rest frame more : List ℕ) → front_of rest ≡ Ok (Some (frame, more)) → cut_of rest ≡ record { frames = frame ∷ (cut_of more).frames; end = (cut_of more).end }
cut_some rest frame more e = cut_of_only rest (frame ∷ (cut_of more).frames) (cut_of more).end (cons_cut rest frame more (cut_of more).frames (cut_of more).end e (cut_of_is more))
