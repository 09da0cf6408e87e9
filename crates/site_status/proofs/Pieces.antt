-- Pieces that are written one behind the other.
use Rattle.std.proofs.Common.{◌≡◌, ℕ, List, ◌++◌, append_assoc}

-- four pieces behind what was there
pub four_pieces : (before a b c d : List ℕ) → before ++ a ++ b ++ c ++ d ≡ before ++ (a ++ b ++ c ++ d)
four_pieces before a b c d = simp append_assoc
