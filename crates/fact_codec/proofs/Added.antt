-- What is added at the end, part by part.
use Rattle.std.proofs.Common.{◌≡◌, ℕ, List, ◌++◌, append_assoc}

-- the parts of what is added
pub added : (xs ys zs : List ℕ) → (xs ++ ys) ++ zs ≡ xs ++ (ys ++ zs)
added xs ys zs = append_assoc xs ys zs
