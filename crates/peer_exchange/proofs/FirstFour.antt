-- The first four bytes of a list, set one after the other, and the length of a number of four.
use Rattle.std.proofs.Common.{◌≡◌, ℕ, ◌+◌, ◌≤◌, List, [], ◌∷◌, ◌++◌, length, drop, length-append, refl, arith}
use Rattle.std.specs.Prelude.{slice_set, slice_index_or}
use Rattle.std.specs.Int.{w32, to_be_bytes}
use Rattle.fact_codec.specs.Spelling.{word_bytes}

-- set, they stand before the rest
pub four_set : (xs : List ℕ) (a b c d : ℕ) → 4 ≤ length xs → slice_set (slice_set (slice_set (slice_set xs 0 a) 1 b) 2 c) 3 d ≡ a ∷ b ∷ c ∷ d ∷ drop 4 xs
four_set [] a b c d le = absurd (omega arith)
four_set (x ∷ []) a b c d le = absurd (omega arith)
four_set (x ∷ y ∷ []) a b c d le = absurd (omega arith)
four_set (x ∷ y ∷ z ∷ []) a b c d le = absurd (omega arith)
four_set (x ∷ y ∷ z ∷ w ∷ xs) a b c d le = refl

-- the bytes of a number, one by one
pub word_cells : (bs : List ℕ) (n : ℕ) (xs : List ℕ) → bs ≡ to_be_bytes w32 n → slice_index_or bs 0 0 ∷ slice_index_or bs 1 0 ∷ slice_index_or bs 2 0 ∷ slice_index_or bs 3 0 ∷ xs ≡ word_bytes n ++ xs
unfolding word_bytes
word_cells bs n xs e = rw e refl

-- a number of four bytes has four
pub word_length : (n : ℕ) → length (word_bytes n) ≡ 4
unfolding word_bytes
word_length n = refl

-- behind it stands the rest
pub after_word : (n : ℕ) (xs : List ℕ) → drop 4 (word_bytes n ++ xs) ≡ xs
unfolding word_bytes
after_word n xs = refl

-- and all are four more
pub word_and : (n : ℕ) (xs : List ℕ) → length (word_bytes n ++ xs) ≡ 4 + length xs
word_and n xs = omega (arith, word_length n, length-append (word_bytes n) xs)
