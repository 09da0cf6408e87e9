use Rattle.std.proofs.Common.{◌≡◌, ◌≤◌, ◌+◌, length, vec_len, vec_capacity}
use Rattle.std.specs.Vec.Iter.{into_iter_items, into_iter_len}
use Rattle.pcrf_serve.specs.Workers.{Joins}
use Rattle.pcrf_serve.proofs.Covering.{Covers}
use Rattle.pcrf_serve.proofs.workers.join_all.Given as goal

abbrev pub invariant-loop-worker : goal.invariant-loop-worker
invariant-loop-worker g l =
    Covers (Joins g.S.SharedSite.seen) l.fn.begun.items l.ended.items (into_iter_items l.worker-iterator)
    × (length (into_iter_items l.worker-iterator) ≡ into_iter_len l.worker-iterator)
    × (vec_len l.ended + into_iter_len l.worker-iterator ≤ vec_capacity l.ended)
