-- How many bounds a time is above: those before the first that it isn't above.
use Rattle.std.proofs.Common.{◌≡◌, ℕ, zero, suc, ◌+◌, ◌≤◌, Bool, true, false, cond, ◌&&◌, leb, leb-true, true≢false, subst, get_or, List, [], ◌∷◌, length, count_by, refl, sym, ap, arith}
use Rattle.std.specs.List.Sorted.{IsPartitionPoint, IsNonDecreasingBy}
use Rattle.std.specs.List.{AllAdjacentBelow}
use Rattle.std.proofs.lemmas.List.Sorted.{IsNonDecreasingBy-from_all_adjacent}
use Rattle.std.proofs.lemmas.List.Sums.{sum_by-cons}
use Rattle.site_status.specs.declared.times.TheConstants.{BOUNDS}

module _ {A : Type 0} (p : A → Bool) where
  -- the parts of a list without its first
  parts_behind : (x : A) (xs : List A) (i : ℕ) → IsPartitionPoint (λ y. p y ≡ true) (λ y. p y ≡ false) (x ∷ xs) (suc i) → IsPartitionPoint (λ y. p y ≡ true) (λ y. p y ≡ false) xs i
  parts_behind x xs i parts = (λ k d low high. parts.0 (suc k) d (omega arith) (omega arith), λ k d low high. parts.1 (suc k) d (omega arith) (omega arith))

  none_behind : (x : A) (xs : List A) → IsPartitionPoint (λ y. p y ≡ true) (λ y. p y ≡ false) (x ∷ xs) 0 → IsPartitionPoint (λ y. p y ≡ true) (λ y. p y ≡ false) xs 0
  none_behind x xs parts = (λ k d low high. absurd (omega arith), λ k d low high. parts.1 (suc k) d (omega arith) (omega arith))

  -- what one that passes counts, and one that doesn't
  abbrev weight : Bool → ℕ
  weight b = cond b 1 0

  -- so many pass as stand before the point up to which all pass and behind which none does
  pub counted : (xs : List A) (i : ℕ) → i ≤ length xs → IsPartitionPoint (λ y. p y ≡ true) (λ y. p y ≡ false) xs i → i ≡ count_by p xs
  counted [] i le parts = omega arith
  counted (x ∷ xs) zero le parts =
      let first : p x ≡ false = parts.1 0 x (omega arith) (omega arith) in
      let others : 0 ≡ count_by p xs = counted xs 0 (omega arith) (none_behind x xs parts) in
      omega (arith, others, ap weight first, sum_by-cons (λ y. weight (p y)) x xs)
  counted (x ∷ xs) (suc i) le parts =
      let first : p x ≡ true = parts.0 0 x (omega arith) (omega arith) in
      let others : i ≡ count_by p xs = counted xs i (omega arith) (parts_behind x xs i parts) in
      omega (arith, others, ap weight first, sum_by-cons (λ y. weight (p y)) x xs)

-- each is at most the next
abbrev rises : List ℕ → Bool
rises [] = true
rises (x ∷ []) = true
rises (x ∷ y ∷ ys) = leb x y && rises (y ∷ ys)

-- the first of two that hold
first_holds : (a b : Bool) → (a && b) ≡ true → a ≡ true
first_holds true b h = refl
first_holds false b h = h

-- the second of two that hold
second_holds : (a b : Bool) → (a && b) ≡ true → b ≡ true
second_holds true b h = h
second_holds false b h = absurd (true≢false (sym h))

-- so any two neighbours
neighbours : (xs : List ℕ) → rises xs ≡ true → AllAdjacentBelow (λ x y. x ≤ y) xs (length xs)
neighbours [] h k d l = absurd (omega arith)
neighbours (x ∷ []) h k d l = absurd (omega arith)
neighbours (x ∷ y ∷ ys) h zero d l = leb-true x y (first_holds (leb x y) (rises (y ∷ ys)) h)
neighbours (x ∷ y ∷ ys) h (suc k) d l =
    let next : suc k + 1 ≡ suc (k + 1) = omega arith in
    subst (λ n. get_or (y ∷ ys) k d ≤ get_or (x ∷ y ∷ ys) n d) (sym next) (neighbours (y ∷ ys) (second_holds (leb x y) (rises (y ∷ ys)) h) k d (omega arith))

-- the bounds rise
pub bounds_rise : IsNonDecreasingBy (λ (x : ℕ). x) BOUNDS
bounds_rise = IsNonDecreasingBy-from_all_adjacent (λ x. x) BOUNDS (neighbours BOUNDS refl)
