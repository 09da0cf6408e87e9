-- Texts that are compared by words: what an equal front leaves, and what a word says of its bytes.
use Rattle.std.proofs.Common.{◌≡◌, ℕ, zero, suc, ◌+◌, ◌-◌, ◌*◌, ◌<◌, ◌≤◌, List, [], ◌∷◌, ◌++◌, length, get_or, take, drop, min, refl, ap, sym, ◌∙◌, arith, Ordering, Less, Equal, Greater}
use Rattle.std.specs.Ordering.{nat_cmp, ordering_then}
use Rattle.std.specs.Slice.Scan.{big_endian}
use Rattle.std.proofs.lemmas.List.{take-append-drop, length-drop, length-take-le}
use Rattle.std.proofs.Math.Seq.{take-add}
use Rattle.std.proofs.lemmas.Bool.Decides.{nat_tests}
use Rattle.pcrf_values.specs.Orders.{text_cmp}
use Rattle.pcrf_values.specs.laws.Exact.{nat_same, text_same}

-- each number of the list is a byte
abbrev pub AreBytes : List ℕ → Type 0
AreBytes bytes = (i : ℕ) → get_or bytes i 0 < 256

-- of three comparisons in turn, it is the same which two are taken together
then_again : (o p q : Ordering) → ordering_then (ordering_then o p) q ≡ ordering_then o (ordering_then p q)
then_again Less p q = refl
then_again Equal p q = refl
then_again Greater p q = refl

-- a number is equal to itself
nat_itself : (n : ℕ) → nat_cmp n n ≡ Equal
nat_itself n = grind (arith, nat_tests)

-- so is a text
text_itself : (xs : List ℕ) → text_cmp xs xs ≡ Equal
text_itself [] = refl
text_itself (x ∷ xs) = rw (nat_itself x) (text_itself xs)

-- fronts of one length are compared first
fronts : (xs ys more others : List ℕ) → length xs ≡ length ys → text_cmp (xs ++ more) (ys ++ others) ≡ ordering_then (text_cmp xs ys) (text_cmp more others)
fronts [] [] more others long = refl
fronts [] (y ∷ ys) more others long = absurd (omega (arith, long))
fronts (x ∷ xs) [] more others long = absurd (omega (arith, long))
fronts (x ∷ xs) (y ∷ ys) more others long = ap (ordering_then (nat_cmp x y)) (fronts xs ys more others (omega (arith, long))) ∙ sym (then_again (nat_cmp x y) (text_cmp xs ys) (text_cmp more others))

-- a byte more: the numbers before it decide first
a_byte_more : (m n x y : ℕ) → x < 256 → y < 256 → nat_cmp (m * 256 + x) (n * 256 + y) ≡ ordering_then (nat_cmp m n) (nat_cmp x y)
a_byte_more m n x y low least = grind (arith, nat_tests)

-- words of one length compare as their bytes do
words : (xs ys : List ℕ) (m n : ℕ) → length xs ≡ length ys → AreBytes xs → AreBytes ys → nat_cmp (big_endian m xs) (big_endian n ys) ≡ ordering_then (nat_cmp m n) (text_cmp xs ys)
words [] [] m n long a b = grind arith
words [] (y ∷ ys) m n long a b = absurd (omega (arith, long))
words (x ∷ xs) [] m n long a b = absurd (omega (arith, long))
words (x ∷ xs) (y ∷ ys) m n long a b =
    words xs ys (m * 256 + x) (n * 256 + y) (omega (arith, long)) (λ i. a (suc i)) (λ i. b (suc i))
    ∙ ap (λ o. ordering_then o (text_cmp xs ys)) (a_byte_more m n x y (a 0) (b 0))
    ∙ then_again (nat_cmp m n) (nat_cmp x y) (text_cmp xs ys)

-- the front of bytes is bytes
taken : (n : ℕ) (xs : List ℕ) → AreBytes xs → AreBytes (take n xs)
taken zero xs fit i = omega arith
taken (suc n) [] fit i = omega arith
taken (suc n) (x ∷ xs) fit zero = fit 0
taken (suc n) (x ∷ xs) fit (suc i) = taken n xs (λ k. fit (suc k)) i

-- so is what is left
dropped : (n : ℕ) (xs : List ℕ) → AreBytes xs → AreBytes (drop n xs)
dropped zero xs fit i = fit i
dropped (suc n) [] fit i = omega arith
dropped (suc n) (x ∷ xs) fit i = dropped n xs (λ k. fit (suc k)) i

-- so are the eight bytes from i on
pub word_fits : (i : ℕ) (xs : List ℕ) → AreBytes xs → AreBytes (take 8 (drop i xs))
word_fits i xs fit = taken 8 (drop i xs) (dropped i xs fit)

-- a front of a shared front is shared
pub front_of : (i j : ℕ) (xs ys : List ℕ) → i ≤ j → take j xs ≡ take j ys → take i xs ≡ take i ys
front_of zero j xs ys low same = refl
front_of (suc i) zero xs ys low same = absurd (omega arith)
front_of (suc i) (suc j) [] [] low same = refl
front_of (suc i) (suc j) [] (y ∷ ys) low same = absurd (cc)
front_of (suc i) (suc j) (x ∷ xs) [] low same = absurd (cc)
front_of (suc i) (suc j) (x ∷ xs) (y ∷ ys) low same =
    let head : x ≡ y = cc in
    let rest : take j xs ≡ take j ys = cc in
    let less : take i xs ≡ take i ys = front_of i j xs ys (omega (arith, low)) rest in
    cc

-- where fronts are the same, what is after them decides
past : (i : ℕ) (xs ys : List ℕ) → take i xs ≡ take i ys → text_cmp xs ys ≡ text_cmp (drop i xs) (drop i ys)
past zero xs ys same = refl
past (suc i) [] [] same = refl
past (suc i) [] (y ∷ ys) same = absurd (cc)
past (suc i) (x ∷ xs) [] same = absurd (cc)
past (suc i) (x ∷ xs) (y ∷ ys) same =
    let head : x ≡ y = cc in
    let rest : take i xs ≡ take i ys = cc in
    ap (λ k. ordering_then (nat_cmp x k) (text_cmp xs ys)) (sym head) ∙ rw (nat_itself x) (past i xs ys rest)

-- a comparison that tells two apart is not gone on with
told_apart : (o p : Ordering) → (o ≡ Equal → ⊥) → ordering_then o p ≡ o
told_apart Less p apart = refl
told_apart Equal p apart = absurd (apart refl)
told_apart Greater p apart = refl

-- what is left beyond the shorter of two lengths compares as the lengths do
by_rest : (xs ys : List ℕ) (k m n : ℕ) → k ≡ min m n → length xs ≡ m - k → length ys ≡ n - k → text_cmp xs ys ≡ nat_cmp m n
by_rest [] [] k m n least a b = grind (arith, nat_tests)
by_rest [] (y ∷ ys) k m n least a b = grind (arith, nat_tests)
by_rest (x ∷ xs) [] k m n least a b = grind (arith, nat_tests)
by_rest (x ∷ xs) (y ∷ ys) k m n least a b = absurd (omega (arith, least, a, b))

-- where the shorter text is a front of the longer one, the lengths decide
pub ended : (n : ℕ) (xs ys : List ℕ) → n ≡ min (length xs) (length ys) → take n xs ≡ take n ys → text_cmp xs ys ≡ nat_cmp (length xs) (length ys)
ended n xs ys least same = past n xs ys same ∙ by_rest (drop n xs) (drop n ys) n (length xs) (length ys) least (length-drop n xs) (length-drop n ys)

-- the words at i of two texts that are the same before it
module _ (i : ℕ) (xs ys : List ℕ) (a : AreBytes (take 8 (drop i xs))) (b : AreBytes (take 8 (drop i ys))) (long : i + 8 ≤ length xs) (far : i + 8 ≤ length ys) (same : take i xs ≡ take i ys) (m n : ℕ) (ours : m ≡ big_endian 0 (take 8 (drop i xs))) (theirs : n ≡ big_endian 0 (take 8 (drop i ys))) where
  abbrev front : List ℕ
  front = take 8 (drop i xs)

  abbrev other : List ℕ
  other = take 8 (drop i ys)

  level : length front ≡ length other
  level = length-take-le 8 (drop i xs) (omega (arith, long, length-drop i xs)) ∙ sym (length-take-le 8 (drop i ys) (omega (arith, far, length-drop i ys)))

  as_words : nat_cmp m n ≡ text_cmp front other
  as_words =
      ap (λ k. nat_cmp k n) ours ∙ ap (nat_cmp (big_endian 0 front)) theirs
      ∙ words front other 0 0 level a b
      ∙ ap (λ o. ordering_then o (text_cmp front other)) (nat_itself 0)

  -- where they differ, they compare as the texts do
  pub differing : (m ≡ n → ⊥) → nat_cmp m n ≡ text_cmp xs ys
  differing apart =
      let more = drop 8 (drop i xs) in
      let others = drop 8 (drop i ys) in
      let whole : text_cmp (drop i xs) (drop i ys) ≡ ordering_then (text_cmp front other) (text_cmp more others) =
      ap (λ l. text_cmp l (drop i ys)) (sym (take-append-drop 8 (drop i xs))) ∙ ap (text_cmp (front ++ more)) (sym (take-append-drop 8 (drop i ys))) ∙ fronts front other more others level in
      let first = told_apart (nat_cmp m n) (text_cmp more others) (λ e. apart (nat_same m n e)) in
      sym (past i xs ys same ∙ whole ∙ ap (λ o. ordering_then o (text_cmp more others)) (sym as_words) ∙ first)

  -- where they are one number, the texts are the same past them
  pub alike : m ≡ n → take (i + 8) xs ≡ take (i + 8) ys
  alike e =
      let equal : text_cmp front other ≡ Equal = sym as_words ∙ ap (nat_cmp m) (sym e) ∙ nat_itself m in
      let shared : front ≡ other = text_same front other equal in
      take-add i 8 xs ∙ ap (λ l. l ++ front) same ∙ ap (λ l. take i ys ++ l) shared ∙ sym (take-add i 8 ys)
