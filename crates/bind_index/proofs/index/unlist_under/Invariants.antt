use Rattle.std.proofs.Common.{take}
use Rattle.bind_index.specs.Forgetting.{ForgetsEach}
use Rattle.bind_index.proofs.index.unlist_under.Given as goal

-- the session was taken out from under those so far
abbrev pub invariant-loop-subscriber : goal.invariant-loop-subscriber
invariant-loop-subscriber l = record { so_far : ForgetsEach l.fn.lists l.lists l.id (take l.subscriber-index l.subscribers) }
