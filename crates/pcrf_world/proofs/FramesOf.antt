-- Each frame of a stream is one.
use Rattle.std.proofs.Common.{◌≡◌, ◌<◌, ℕ, zero, suc, List, [], ◌∷◌, length, get_or, arith, subst, sym}
use Rattle.std.specs.Global.{Vec}
use Rattle.std.specs.List.{AllByRecursion}
use Rattle.dia_codec.specs.Spelling.{IsFrame}
use Rattle.dia_codec.specs.Stream.{frame_bytes}

-- the frame at a place
pub frame_at : (frames : List (Vec ℕ)) (i : ℕ) (f : Vec ℕ) → AllByRecursion IsFrame (frame_bytes frames) → i < length frames → f ≡ get_or frames i f → IsFrame f.items
frame_at [] i f each within is = absurd (omega (arith, within))
frame_at (g ∷ gs) zero f each within is = subst (λ (v : Vec ℕ). IsFrame v.items) (sym is) each.0
frame_at (g ∷ gs) (suc i) f each within is = frame_at gs i f each.1 (omega (arith, within)) is
