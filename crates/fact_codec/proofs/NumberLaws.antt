-- Numbers: what is read is spelled so, and what is spelled so is read.
use Rattle.std.proofs.Common.{◌≡◌, ℕ, ◌^◌, ◌<◌, ◌≤◌, Bool, true, false, cond, ltb, List, ◌++◌, length, get_or, take, drop, Some, None, refl, sym, ap, inl, inr, arith}
use Rattle.std.specs.Int.{Width, w16, w32, w64, byte_len, from_be_bytes, to_be_bytes}
use Rattle.std.proofs.lemmas.Bool.{cases_lt, ltb-false, le-ltb}
use Rattle.std.proofs.lemmas.List.{take_at, drop_at, take-append-drop, length-append, length-take, get_or-take, get_or_past}
use Rattle.std.proofs.lemmas.Nat.{be_bytes_2, be_bytes_4, be_bytes_8, from_be_bytes-to_be_bytes_2, from_be_bytes-to_be_bytes_4, from_be_bytes-to_be_bytes_8}
use Rattle.fact_codec.specs.Spelling.{short_bytes, word_bytes, long_bytes}
use Rattle.fact_codec.specs.Reading.{number, short, word, long, exactly}

-- each is a byte
abbrev pub IsBytes : List ℕ → Type 0
IsBytes bytes = (i : ℕ) → get_or bytes i 0 < 256

-- a test that did not refuse
pub not_refused : {A : Type 0} (b : Bool) (x y : A) → cond b None (Some x) ≡ Some y → (b ≡ false) × (x ≡ y)
not_refused true x y e = absurd cc
not_refused false x y e = (refl, cc)

-- the bytes at the front are bytes too
front_fits : (n : ℕ) (bytes : List ℕ) → IsBytes bytes → IsBytes (take n bytes)
front_fits n bytes fits i =
    elim (cases_lt i n) [
      | inl lt ↦ rw (get_or-take n bytes i 0 lt) (fits i)
      | inr le ↦ rw (get_or_past (take n bytes) i 0 (omega (arith, length-take n bytes))) (omega arith)
    ]

module _ (bytes rest : List ℕ) (n : ℕ) (fits : IsBytes bytes) where
  -- a number that was read is spelled so
  spelled : (w : Width) → (length (take (byte_len w) bytes) ≡ byte_len w → to_be_bytes w (from_be_bytes w (take (byte_len w) bytes)) ≡ take (byte_len w) bytes) → number w bytes ≡ Some (n, rest) → bytes ≡ to_be_bytes w n ++ rest
  spelled w back e =
      let g = not_refused (ltb (length bytes) (byte_len w)) (from_be_bytes w (take (byte_len w) bytes), drop (byte_len w) bytes) (n, rest) e in
      let long : byte_len w ≤ length bytes = ltb-false _ _ g.0 in
      let is : from_be_bytes w (take (byte_len w) bytes) ≡ n = ap (λ (p : ℕ × List ℕ). p.0) g.1 in
      let left : drop (byte_len w) bytes ≡ rest = ap (λ (p : ℕ × List ℕ). p.1) g.1 in
      rw (← is, back (omega (arith, length-take (byte_len w) bytes)), ← left) (sym (take-append-drop (byte_len w) bytes))

  pub short_spelled : short bytes ≡ Some (n, rest) → bytes ≡ short_bytes n ++ rest
  unfolding short short_bytes
  short_spelled e = spelled w16 (λ len. be_bytes_2 (take 2 bytes) _ len (front_fits 2 bytes fits) refl) e

  pub word_spelled : word bytes ≡ Some (n, rest) → bytes ≡ word_bytes n ++ rest
  unfolding word word_bytes
  word_spelled e = spelled w32 (λ len. be_bytes_4 (take 4 bytes) _ len (front_fits 4 bytes fits) refl) e

  pub long_spelled : long bytes ≡ Some (n, rest) → bytes ≡ long_bytes n ++ rest
  unfolding long long_bytes
  long_spelled e = spelled w64 (λ len. be_bytes_8 (take 8 bytes) _ len (front_fits 8 bytes fits) refl) e

module _ (n : ℕ) (rest : List ℕ) where
  -- a number that is spelled is read
  again : (w : Width) → length (to_be_bytes w n) ≡ byte_len w → from_be_bytes w (to_be_bytes w n) ≡ n → number w (to_be_bytes w n ++ rest) ≡ Some (n, rest)
  again w len back =
      let long : ltb (length (to_be_bytes w n ++ rest)) (byte_len w) ≡ false = le-ltb _ _ (omega (arith, length-append (to_be_bytes w n) rest)) in
      rw (long, take_at (to_be_bytes w n) rest (byte_len w) len, drop_at (to_be_bytes w n) rest (byte_len w) len, back) refl

  pub short_again : n < 2 ^ 16 → short (short_bytes n ++ rest) ≡ Some (n, rest)
  unfolding short short_bytes
  short_again lt = again w16 refl (from_be_bytes-to_be_bytes_2 n lt)

  pub word_again : n < 2 ^ 32 → word (word_bytes n ++ rest) ≡ Some (n, rest)
  unfolding word word_bytes
  word_again lt = again w32 refl (from_be_bytes-to_be_bytes_4 n lt)

  pub long_again : n < 2 ^ 64 → long (long_bytes n ++ rest) ≡ Some (n, rest)
  unfolding long long_bytes
  long_again lt = again w64 refl (from_be_bytes-to_be_bytes_8 n lt)

-- so many bytes are read again
pub exactly_again : (t rest : List ℕ) → exactly (length t) (t ++ rest) ≡ Some (t, rest)
unfolding exactly
exactly_again t rest =
    let enough : ltb (length (t ++ rest)) (length t) ≡ false = le-ltb _ _ (omega (arith, length-append t rest)) in
    rw (enough, take_at t rest (length t) refl, drop_at t rest (length t) refl) refl
