-- The frames of a stream, by its bytes alone.
use Rattle.std.specs.Prelude.{ℕ, zero, suc, List, [], ◌∷◌, length, take, Option, Some, None, Result, Ok, Err}
use Rattle.dia_codec.specs.declared.fault.FrameFault.{FrameFault}
use Rattle.dia_codec.specs.declared.stream.StreamEnd.{StreamEnd}
use Rattle.dia_codec.specs.Stream.{front_of, end_of}

-- frames, and what follows the last
pub record Cuts : Type 0 where
  pub frames : List (List ℕ)
  pub end : StreamEnd

-- the frame that was found at the front, and then those of the rest
abbrev pub cut_front : (List ℕ → Cuts) → List ℕ → Result (Option (List ℕ × List ℕ)) FrameFault → Cuts
cut_front again bytes (Ok (Some x)) = record { frames = x.0 ∷ (again x.1).frames; end = (again x.1).end }
cut_front again bytes (Ok None) = record { frames = []; end = end_of bytes }
cut_front again bytes (Err fault) = record { frames = []; end = end_of bytes }

-- so many frames at most
unfoldable pub cut_within : ℕ → List ℕ → Cuts
cut_within zero bytes = record { frames = []; end = end_of bytes }
cut_within (suc n) bytes = cut_front (cut_within n) bytes (front_of bytes)

-- all frames of a stream: no frame is empty, so there are no more of them than bytes
unfoldable pub cut_of : List ℕ → Cuts
cut_of stream = cut_within (length stream) stream

-- the first so many
abbrev pub first : ℕ → List ℕ → List (List ℕ)
first k stream = take k (cut_of stream).frames
