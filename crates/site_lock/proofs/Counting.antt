-- Counts of 64 bits.
use Rattle.std.proofs.Common.{◌≡◌, ℕ, ◌+◌, ◌-◌, ◌^◌, min, List, [], ◌∷◌, ◌++◌, length, length-append, Some, None, option_map, slice_get, refl, ◌∙◌, ap, arith}
use Rattle.site_book.specs.Books.{ReceiptValue}
use Rattle.site_lock.specs.Deeds.{counted_to, counted_place, last_place}

-- a count that is raised by one
pub count_more : (n m k l : ℕ) → n ≡ counted_to k → l ≡ k + 1 → m ≡ min (n + 1) (2 ^ 64 - 1) → m ≡ counted_to l
count_more n m k l was more next = omega (arith, was, more, next)

-- the item behind the first ones
item_behind : (xs : List ReceiptValue) (r : ReceiptValue) → slice_get (xs ++ r ∷ []) (length xs) ≡ Some r
item_behind [] r = refl
item_behind (x ∷ xs) r = item_behind xs r

-- the last receipt is the one that came last
pub last_more : (xs : List ReceiptValue) (r : ReceiptValue) → last_place (xs ++ r ∷ []) ≡ Some (counted_place r)
last_more xs r =
    let many : length (xs ++ r ∷ []) ≡ length xs + 1 = length-append xs (r ∷ []) in
    let at : length (xs ++ r ∷ []) - 1 ≡ length xs = omega (arith, many) in
    ap (option_map counted_place) (ap (slice_get (xs ++ r ∷ [])) at ∙ item_behind xs r)

-- of no receipts there is none
pub last_none : (xs : List ReceiptValue) → xs ≡ [] → None ≡ last_place xs
last_none xs empty = rw empty refl
