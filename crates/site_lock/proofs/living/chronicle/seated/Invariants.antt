use Rattle.std.proofs.Common.{◌≡◌, ◌++◌, length, vec_capacity, vec_len}
use Rattle.std.specs.Vec.Iter.{into_iter_items}
use Rattle.site_book.specs.Books.{new_seats}
use Rattle.site_lock.proofs.living.chronicle.seated.Given as goal

abbrev pub invariant-loop-receipts : goal.invariant-loop-receipts
invariant-loop-receipts g l = record {
  order : l.yielded ++ into_iter_items l.receipts-iterator ≡ l.fn.receipts.items;
  seats : l.seats.items ≡ new_seats (length l.yielded);
  count : vec_len l.seats ≡ length l.yielded;
  room : vec_capacity l.seats ≡ vec_capacity l.initial.seats;
}
