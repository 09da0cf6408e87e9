use Rattle.std.proofs.Common.{◌≡◌, ◌++◌}
use Rattle.std.specs.Prelude.{All}
use Rattle.std.specs.Vec.Iter.{into_iter_items}
use Rattle.site_lock.specs.Deeds.{IsAccountOf}
use Rattle.site_lock.proofs.living.chronicle.Chronicle.settle.Given as goal

abbrev pub invariant-loop-seat : goal.invariant-loop-seat
invariant-loop-seat g l = record {
  order : l.yielded ++ into_iter_items l.seat-iterator ≡ l.fn.seats.items;
  same : l.chronicle ≡ l.fn.self;
  accounts : All (IsAccountOf g.L.Roll.seats l.fn.self.history) l.yielded;
}
