use Rattle.std.proofs.Common.{◌≡◌, ◌<◌, ◌+◌, length, take}
use Rattle.watched_links.specs.Kept.{total_of}
use Rattle.watched_links.proofs.messages.shed.Given as goal

-- what is left is the newest of all, and one more of them would have no room
abbrev pub invariant-loop-total : goal.invariant-loop-total
invariant-loop-total l = record {
  total : l.total ≡ total_of l.shelf.kept.items;
  newest : l.shelf.kept.items ≡ take (length l.shelf.kept.items) l.fn.shelf.kept.items;
  more : length l.shelf.kept.items < length l.fn.shelf.kept.items → l.room < total_of (take (length l.shelf.kept.items + 1) l.fn.shelf.kept.items);
}

abbrev pub decreases-loop-total : goal.decreases-loop-total
decreases-loop-total l = length l.shelf.kept.items
