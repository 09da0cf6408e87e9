use Rattle.std.proofs.Common.{◌≡◌, ◌≤◌, ◌+◌, length, vec_len, vec_capacity}
use Rattle.std.specs.Vec.Iter.{into_iter_items, into_iter_len}
use Rattle.pcrf_serve.specs.Workers.{BegunFrom}
use Rattle.pcrf_serve.proofs.Covering.{Covers}
use Rattle.pcrf_serve.proofs.workers.begin_all.Given as goal

abbrev pub invariant-loop-seat : goal.invariant-loop-seat
invariant-loop-seat g l =
    Covers (λ connection begun. BegunFrom g.S.SharedSite.seen (g.S.SharedSite.seen connection.0) begun) l.fn.connections.items l.begun.items (into_iter_items l.seat-iterator)
    × (length (into_iter_items l.seat-iterator) ≡ into_iter_len l.seat-iterator)
    × (vec_len l.begun + into_iter_len l.seat-iterator ≤ vec_capacity l.begun)
