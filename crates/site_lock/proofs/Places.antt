-- The place of a last receipt as a number of 64 bits.
use Rattle.std.proofs.Common.{◌≡◌, ◌<◌, ◌^◌, Option, Some, option_map, ◌∙◌, ap, arith}
use Rattle.site_book.specs.Books.{ReceiptValue}
use Rattle.site_lock.specs.Deeds.{counted_to, counted_place}

-- a place that has 64 bits is counted as it is
pub place_told : (r : ReceiptValue) (last : Option ReceiptValue) → Some r ≡ last → r.place < 2 ^ 64 → Some r.place ≡ option_map counted_place last
place_told r last same low =
    let whole : r.place ≡ counted_to r.place = omega (arith, low) in
    ap Some whole ∙ ap (option_map counted_place) same
